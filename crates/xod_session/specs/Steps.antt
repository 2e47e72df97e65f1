-- What a shared step came to on a space, told or not.
use Rattle.std.specs.Prelude.{◌≡◌, ◌⊎◌, ℕ, Bool, true, false, IsTrue, Option, Some, None, is_some, option_map}
use Rattle.xod_base.specs.declared.answer.FlushAnswer.{FlushAnswer}
use Rattle.xod_base.specs.declared.answer.FlushAnswer.TheVariants as flush
use Rattle.xod_base.specs.declared.answer.Reply.{Reply}
use Rattle.xod_base.specs.declared.answer.Reply.TheVariants as reply
use Rattle.xod_base.specs.Causes.{Rose}
use Rattle.xod_base.specs.declared.causes.Cause.{Cause}
use Rattle.xod_base.specs.declared.causes.Cause.TheVariants as cause
use Rattle.xod_base.specs.declared.query.Mode.{Mode}
use Rattle.xod_lang.specs.declared.script.Turned.{Turned}
use Rattle.xod_lang.specs.declared.script.Turned.TheVariants as turn
use Rattle.xod_journal.specs.declared.journal.Origin.TheVariants.{Run}
use Rattle.xod_journal.specs.declared.journal.Step.{Step}
use Rattle.xod_journal.specs.Seats.{busy_of, entered, has_open, seat_of}
use Rattle.xod_journal.specs.Spaces.{IsMet, SpaceView, faults_in, newest_of}
use Rattle.xod_journal.specs.Standing.{rows_at}
use Rattle.xod_journal.specs.Txns.{FitsRows, OpenTxn, pinned_of}
use Rattle.xod_print.specs.Texts.{is_step_reply}
use Rattle.xod_session.specs.declared.course.SharedStep.{SharedStep}
use Rattle.xod_session.specs.declared.course.SharedStep.TheVariants as shared
use Rattle.xod_session.specs.declared.turn.Taken.{Taken}
use Rattle.xod_session.specs.declared.turn.Taken.TheVariants.{Done, Busy, Refused}
use Rattle.xod_session.specs.Courses.{is_open_by}
use Rattle.xod_session.specs.Transcripts.{turned_of}
use Rattle.xod_session.specs.Turns.{turned, turned_to}

-- a shared step as an order has it
abbrev pub turn_of : SharedStep → Turned
turn_of (shared.Begin mode) = turn.Begin
turn_of shared.Flush = turn.Flush
turn_of shared.Revert = turn.Revert
turn_of shared.End = turn.End
turn_of shared.Sync = turn.Sync

-- The transaction that a session holds, or none, is the one that the journal has open for it; it has not stopped.
pub record IsHeld {Open : Type 0} (tells : Open → Bool) (txn : Open → OpenTxn) (space : SpaceView) (actor : ℕ) (held : Option Open) : Type 0 where
  pub seat : seat_of space.start space.journal actor ≡ Some (false, option_map pinned_of (option_map txn held))
  pub told : (one : Open) → held ≡ Some one → IsTrue space.tells → IsTrue (tells one)
  pub fits : (one : Open) → held ≡ Some one → IsTrue space.tells → FitsRows (rows_at (txn one).base space.start.rows space.journal) (txn one)

-- why a flush that committed could not go on at its commit
abbrev pub fault_in : FlushAnswer → Option Cause
fault_in flush.Nothing = None
fault_in (flush.Committed version fault) = fault
fault_in (flush.Conflict base now) = None

-- Why a step was not taken, or could not go on: a count rose in the call, that of the space or that of the transaction;
-- the space was broken before; its bytes are not told; a flush needs a next number, and the last one stands; memory.
abbrev pub IsReason : SpaceView → SpaceView → ℕ → ℕ → SharedStep → Cause → Type 0
IsReason old new early late asked cause.Device = Rose old.faults new.faults ⊎ Rose early late
IsReason old new early late asked cause.Broken = IsTrue old.is_broken
IsReason old new early late asked cause.Damaged = old.tells ≡ false
IsReason old new early late asked cause.Spent = (asked ≡ shared.Flush) × IsTrue new.is_last
IsReason old new early late asked cause.Memory = Unit {0}

-- a flush that committed, but could not go on at its commit
pub record IsFaulted (old space : SpaceView) (actor : ℕ) (asked : SharedStep) (has_txn : Bool) (early faults : ℕ) (answer : Reply) (reason : Cause) : Type 0 where
  pub flushes : asked ≡ shared.Flush
  pub version : ℕ
  pub committed : answer ≡ reply.Flushed (flush.Committed version None)
  pub seat : option_map has_open (seat_of space.start space.journal actor) ≡ Some (false, has_txn)
  pub met : IsMet space faults reason Run
  pub why : IsReason old space early faults asked reason

-- A step was taken: its entry is the journal's last. Where the rows are told, it is what the session asked for, with its
-- answer and the transaction behind it. A fault stops the session at once.
pub record Takes {Open : Type 0} (tells : Open → Bool) (txn : Open → OpenTxn) (faults : Open → ℕ) (old new : SpaceView) (actor : ℕ) (asked : SharedStep) (before : Option Open) (answer : Reply) (fault : Option Cause) (after : Option Open) : Type 0 where
  pub step : Step
  pub entry : new.journal ≡ entered old.journal actor step
  pub kind : turned_of step ≡ turn_of asked
  pub answers : is_step_reply answer ≡ true
  pub has_txn : is_some after ≡ is_open_by (Some asked) (is_some before)
  pub later : Option OpenTxn
  pub has_later : is_some later ≡ is_some after
  pub told : IsTrue old.tells → turned (Some asked) (newest_of old) (option_map txn before) step ≡ Some (turned_to later answer)
  pub goes_on : fault ≡ None → (IsTrue old.tells → option_map txn after ≡ later)
      × (seat_of new.start new.journal actor ≡ Some (false, option_map pinned_of (option_map txn after)))
      × ((one : Open) → after ≡ Some one → IsTrue old.tells → IsTrue (tells one))
  pub faulted : (reason : Cause) → fault ≡ Some reason → IsFaulted old new actor asked (is_some after) (faults_in faults before) (faults_in faults after) answer reason

-- a begin that waits for another transaction
pub record Waits {Open : Type 0} (old new : SpaceView) (asked : SharedStep) (before : Option Open) (holder : ℕ) : Type 0 where
  pub mode : Mode
  pub begins : asked ≡ shared.Begin mode
  pub none : before ≡ None
  pub busy : busy_of old.start old.journal mode ≡ Some holder
  pub same : new.journal ≡ old.journal

-- a step that was refused: nothing was appended, and whoever met the cause may stop for it
pub record Declines {Open : Type 0} (faults : Open → ℕ) (old new : SpaceView) (asked : SharedStep) (before after : Option Open) (reason : Cause) : Type 0 where
  pub same : new.journal ≡ old.journal
  pub has_txn : is_some after ≡ is_some before
  pub met : IsMet new (faults_in faults after) reason Run
  pub why : IsReason old new (faults_in faults before) (faults_in faults after) asked reason

-- What a shared step came to.
abbrev pub IsTaken : {Open : Type 0} → (Open → Bool) → (Open → OpenTxn) → (Open → ℕ) → SpaceView → SpaceView → ℕ → SharedStep → Option Open → Taken Open → Type 0
IsTaken tells txn faults old new actor asked before (Done answer fault after) = Takes tells txn faults old new actor asked before answer fault after
IsTaken tells txn faults old new actor asked before (Busy holder) = Waits old new asked before holder
IsTaken tells txn faults old new actor asked before (Refused reason after) = Declines faults old new asked before after reason
