-- What a session asks of the store at a shared step, and what it is answered.
use base.Fml.{GName}
use Rattle.std.specs.Prelude.{◌≡◌, ◌≤◌, ℕ, ◌+◌, ◌-◌, ◌^◌, Bool, true, false, ◌&&◌, IsTrue, List, length, min, Option, Some, None, option_map, is_some}
use Rattle.std.specs.List.{filter}
use Rattle.xod_base.specs.declared.query.Mode.{Mode}
use Rattle.xod_base.specs.declared.causes.Cause.{Cause}
use Rattle.xod_base.specs.declared.causes.Cause.TheVariants as cause
use Rattle.xod_base.specs.declared.answer.FlushAnswer.{FlushAnswer}
use Rattle.xod_base.specs.declared.answer.FlushAnswer.TheVariants as answer
use Rattle.xod_base.specs.Causes.{Rose}
use Rattle.xod_base.specs.Rows.{is_sound}
use Rattle.xod_journal.specs.declared.journal.JournalEntry.{JournalEntry}
use Rattle.xod_journal.specs.declared.journal.Origin.{Origin}
use Rattle.xod_journal.specs.declared.journal.Origin.TheVariants as origin
use Rattle.xod_journal.specs.declared.journal.Step.{Step}
use Rattle.xod_journal.specs.declared.journal.Step.TheVariants as step
use Rattle.xod_journal.specs.Books.{flush_answer, version_of}
use Rattle.xod_journal.specs.Locals.{KeepsLocal, held_of}
use Rattle.xod_journal.specs.Seats.{books_after, busy_of, entered, has_open, is_over, seat_of}
use Rattle.xod_journal.specs.Standing.{Newest, after, newest_after, opening, rows_at}
use Rattle.xod_journal.specs.Txns.{FitsRows, OpenTxn, pinned_of, txn_at, txn_flushed}

-- What a space has. Rows mean something only where it tells them.
pub record SpaceView : Type 0 where
  -- whether it tells its rows
  pub tells : Bool
  -- what it started with
  pub start : Newest
  pub journal : List JournalEntry
  -- how often the outside failed: up to now, and when the space was made
  pub faults : ℕ
  pub made : ℕ
  -- the number of sessions that it was made for
  pub sessions : ℕ
  -- whether a write failed, so that nothing is read or written any more
  pub is_broken : Bool
  -- whether the last number of a commit or of a file stands
  pub is_last : Bool

-- the newest rows of a space, and the number of their commit
abbrev pub newest_of : SpaceView → Newest
newest_of space = newest_after space.start space.journal

-- ---- faults

-- A number is not more than what a count has, or the count stands at the last number that a u64 has, where it stays.
abbrev pub IsCounted : ℕ → ℕ → Type 0
IsCounted number count = min number (2 ^ 64 - 1) ≤ count

abbrev pub is_device : Cause → Bool
is_device cause.Device = true
is_device cause.Broken = false
is_device cause.Damaged = false
is_device cause.Spent = false
is_device cause.Memory = false

abbrev pub is_run : Origin → Bool
is_run origin.Run = true
is_run origin.Order = false
is_run origin.Left = false

-- whether a step is a stop that this run met, for a device's fault
abbrev pub is_device_stop : Step → Bool
is_device_stop (step.Begin mode) = false
is_device_stop step.Revert = false
is_device_stop (step.Flush changes version) = false
is_device_stop step.End = false
is_device_stop step.Sync = false
is_device_stop (step.Stop line reason from) = is_device reason && is_run from

abbrev pub device_stops : List JournalEntry → ℕ
device_stops journal = length (filter (λ entry. is_device_stop entry.step) journal)

-- ---- conditions

-- the actor has not stopped, and has no transaction open
abbrev pub HasNoTxn : SpaceView → ℕ → Type 0
HasNoTxn space actor = seat_of space.start space.journal actor ≡ Some (false, None)

-- the actor has not stopped
abbrev pub HasNotStopped : SpaceView → ℕ → Type 0
HasNotStopped space actor = option_map is_over (seat_of space.start space.journal actor) ≡ Some false

-- A transaction is the one that the journal has open for an actor who has not stopped: it has that mode and base, and
-- where the space tells its rows, so does the transaction, and they are those of the base with its own changes.
pub record IsOpen (space : SpaceView) (actor : ℕ) (tells : Bool) (txn : OpenTxn) : Type 0 where
  pub seat : seat_of space.start space.journal actor ≡ Some (false, Some (pinned_of txn))
  pub told : IsTrue space.tells → IsTrue tells
  pub fits : IsTrue space.tells → FitsRows (rows_at txn.base space.start.rows space.journal) txn

-- What is there where this run met a cause: for a device's fault more faults since the space was made, those of the
-- transaction included, than stops for one; the broken space; the last number. The others ask for nothing.
abbrev pub IsMet : SpaceView → ℕ → Cause → Origin → Type 0
IsMet space faults cause.Device origin.Run = Rose (space.made + device_stops space.journal) (space.faults + faults)
IsMet space faults cause.Broken origin.Run = IsTrue space.is_broken
IsMet space faults cause.Damaged origin.Run = Unit {0}
IsMet space faults cause.Spent origin.Run = IsTrue space.is_last
IsMet space faults cause.Memory origin.Run = Unit {0}
IsMet space faults reason origin.Order = Unit {0}
IsMet space faults reason origin.Left = Unit {0}

-- the faults of a transaction that may be absent
abbrev pub faults_in : {Local : Type 0} → (Local → ℕ) → Option Local → ℕ
faults_in faults None = 0
faults_in faults (Some txn) = faults txn

-- A stop can be taken: the actor is a session that has not stopped, a transaction is handed in exactly where the
-- journal has one open, and a cause that this run met is there.
pub record CanStop (space : SpaceView) (actor : ℕ) (has_txn : Bool) (faults : ℕ) (reason : Cause) (from : Origin) : Type 0 where
  pub least : 1 ≤ actor
  pub most : actor ≤ space.sessions
  pub seat : option_map has_open (seat_of space.start space.journal actor) ≡ Some (false, has_txn)
  pub met : IsMet space faults reason from

-- ---- what stays

-- What no call of a space changes. A count never falls, what is broken stays so, and so does a last number that stands.
pub record KeepsSpace (old new : SpaceView) : Type 0 where
  pub tells_same : new.tells ≡ old.tells
  pub start_same : new.start ≡ old.start
  pub made_same : new.made ≡ old.made
  pub sessions_same : new.sessions ≡ old.sessions
  pub never_falls : old.faults ≤ new.faults
  pub stays_broken : IsTrue old.is_broken → IsTrue new.is_broken
  pub stays_last : IsTrue old.is_last → IsTrue new.is_last

-- ---- refusals

-- Why a call was refused that is not busy. `rose` says that a count rose in the call, and `spent` that a last number
-- stands. It was broken before exactly where the cause says so; want of memory goes before that.
abbrev pub HasReason : SpaceView → Type 0 → Type 0 → Cause → Type 0
HasReason old rose spent cause.Device = rose × (old.is_broken ≡ false)
HasReason old rose spent cause.Broken = IsTrue old.is_broken
HasReason old rose spent cause.Damaged = (old.tells ≡ false) × (old.is_broken ≡ false)
HasReason old rose spent cause.Spent = spent × (old.is_broken ≡ false)
HasReason old rose spent cause.Memory = Unit {0}

-- A refusal appends nothing, and its cause has its reason.
pub record Refuses (old new : SpaceView) (rose spent : Type 0) (reason : Cause) : Type 0 where
  pub journal_same : new.journal ≡ old.journal
  pub why : HasReason old rose spent reason

-- ---- begins, reverts, ends and syncs

-- A transaction that a call leaves is the expected one: its mode, its base and its own changes, and where the space
-- tells its rows, so does the transaction, and they are the expected ones.
pub record IsTxn (space : SpaceView) (tells : Bool) (txn expected : OpenTxn) : Type 0 where
  pub held : held_of txn ≡ held_of expected
  pub told : IsTrue space.tells → IsTrue tells
  pub all : IsTrue space.tells → txn ≡ expected

-- A begin: nobody is in its way, and the transaction sees the newest commit.
pub record Begins (actor : ℕ) (mode : Mode) (old new : SpaceView) (commit : ℕ) (tells : Bool) (txn : OpenTxn) : Type 0 where
  pub free : busy_of old.start old.journal mode ≡ None
  pub unbroken : old.is_broken ≡ false
  pub entry : new.journal ≡ entered old.journal actor (step.Begin mode)
  pub at : commit ≡ (newest_of old).commit
  pub txn_is : IsTxn old tells txn (txn_at mode (newest_of old))

-- A revert: the own changes are gone, and the transaction sees the newest commit.
pub record Reverts (actor : ℕ) (old new : SpaceView) (commit : ℕ) (before : OpenTxn) (tells : Bool) (txn : OpenTxn) : Type 0 where
  pub unbroken : old.is_broken ≡ false
  pub entry : new.journal ≡ entered old.journal actor step.Revert
  pub at : commit ≡ (newest_of old).commit
  pub txn_is : IsTxn old tells txn (txn_at before.mode (newest_of old))

-- A sync: all commits so far are durable.
pub record Syncs (actor : ℕ) (old new : SpaceView) : Type 0 where
  pub unbroken : old.is_broken ≡ false
  pub entry : new.journal ≡ entered old.journal actor step.Sync

-- ---- flushes

-- what was answered, whether or not the transaction could go on
abbrev pub without_fault : FlushAnswer → FlushAnswer
without_fault answer.Nothing = answer.Nothing
without_fault (answer.Committed version fault) = answer.Committed version None
without_fault (answer.Conflict base now) = answer.Conflict base now

-- A flush: it answers by the changes, the base and the newest commit alone.
pub record Flushes (actor : ℕ) (old new : SpaceView) (answered : FlushAnswer) (before : OpenTxn) : Type 0 where
  pub unbroken : old.is_broken ≡ false
  pub answer_is : without_fault answered ≡ flush_answer (newest_of old).commit before.base before.own
  pub entry : new.journal ≡ entered old.journal actor (step.Flush before.own (version_of answered))

-- why a transaction could not go on at its own commit: the count of the space rose, or memory was refused
abbrev pub IsFault : SpaceView → SpaceView → Cause → Type 0
IsFault old new cause.Device = Rose old.faults new.faults
IsFault old new cause.Broken = ⊥
IsFault old new cause.Damaged = ⊥
IsFault old new cause.Spent = ⊥
IsFault old new cause.Memory = Unit {0}

-- The transaction after a flush: it goes on by the answer; where it could not go on at its commit, it is as it was.
abbrev pub IsFlushed : {Local : Type 0} → (Local → Bool) → (Local → OpenTxn) → (Local → List GName) → (Local → ℕ) → SpaceView → SpaceView → FlushAnswer → Local → Local → Type 0
IsFlushed tells txn refs faults old new answer.Nothing before later = IsTxn old (tells later) (txn later) (txn before)
IsFlushed tells txn refs faults old new (answer.Committed version None) before later = IsTxn old (tells later) (txn later) (txn_flushed (txn before) (answer.Committed version None))
IsFlushed tells txn refs faults old new (answer.Committed version (Some fault)) before later = KeepsLocal tells txn refs faults before later × IsFault old new fault
IsFlushed tells txn refs faults old new (answer.Conflict base now) before later = IsTxn old (tells later) (txn later) (txn before)

-- ---- what always holds

-- The steps of the journal are admitted. Where the rows are told, the journal stands, and the rows at the start are
-- sound. The stops that this run met for a device's fault are never more than the faults since the space was made.
pub record IsSpace (space : SpaceView) : Type 0 where
  pub booked : is_some (books_after space.start space.journal) ≡ true
  pub stands : IsTrue space.tells → is_some (after (Some (opening space.start)) space.journal) ≡ true
  pub sound : IsTrue space.tells → IsTrue (is_sound space.start.rows)
  pub counted : IsCounted (space.made + device_stops space.journal) space.faults
