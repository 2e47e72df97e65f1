-- What a session does next, and what its calls come to.
use Rattle.std.specs.Prelude.{◌≡◌, ◌⊎◌, ℕ, Bool, true, false, List, [], ◌∷◌, ◌++◌, map, drop, not, ◌&&◌, Option, Some, None, if◌then◌else◌}
use Rattle.xod_base.specs.declared.causes.Cause.{Cause}
use Rattle.xod_base.specs.declared.query.Mode.{Mode}
use Rattle.xod_lang.specs.declared.script.Turned.TheVariants as turn
use Rattle.xod_journal.specs.declared.journal.JournalEntry.{JournalEntry}
use Rattle.xod_journal.specs.declared.journal.Origin.TheVariants.{Left, Run}
use Rattle.xod_journal.specs.declared.journal.Step.{Step}
use Rattle.xod_journal.specs.declared.journal.Step.TheVariants as step
use Rattle.xod_journal.specs.Seats.{busy_of, entered}
use Rattle.xod_journal.specs.Spaces.{SpaceView, faults_in}
use Rattle.xod_session.specs.declared.course.SharedStep.{SharedStep}
use Rattle.xod_session.specs.declared.course.SharedStep.TheVariants as shared
use Rattle.xod_session.specs.declared.row.Halt.{Halt}
use Rattle.xod_session.specs.declared.session.Next.{Next}
use Rattle.xod_session.specs.declared.session.Next.TheVariants as next
use Rattle.xod_session.specs.declared.session.Progress.{Progress}
use Rattle.xod_session.specs.declared.session.Progress.TheVariants as progress
use Rattle.xod_session.specs.declared.session.Session.{Session}
use Rattle.xod_session.specs.Answers.{count_until, first_line}
use Rattle.xod_session.specs.Courses.{CourseView, IsReady, answered_count, front_asked, since_place, skipped}
use Rattle.xod_session.specs.Seats.{view_of}
use Rattle.xod_session.specs.Sessions.{can_stop, private_count}
use Rattle.xod_session.specs.Steps.{IsReason, turn_of}
use Rattle.xod_session.specs.Transcripts.{turned_of}
use Rattle.xod_session.specs.World.{entry_of}

-- ---- what comes next

abbrev pub next_step : SharedStep → Next
next_step (shared.Begin mode) = next.Begin mode
next_step shared.Flush = next.Flush
next_step shared.Revert = next.Revert
next_step shared.End = next.End
next_step shared.Sync = next.Sync

-- the next shared step, unless a statement before it could not be answered
abbrev pub next_with : Option (ℕ × SharedStep) → Option Halt → Next
next_with None met = next.Finished
next_with (Some front) None = next_step front.1
next_with (Some front) (Some halt) = next.Stop halt.line halt.cause

-- the line of the next shared step's statement, and the step
abbrev pub front_of : CourseView → Option (ℕ × SharedStep)
front_of course = front_asked course.place.due (drop (private_count course.place.rest) course.place.rest)

-- What a session does next.
abbrev pub next_of : {Open : Type 0} → Session Open → Next
next_of session = if session.course.place.stopped then next.Finished else next_with (front_of session.course) session.met

-- A stop with a line can be taken.
abbrev pub can_halt_at : CourseView → ℕ → Bool
can_halt_at course line = not course.place.stopped && can_stop (since_place course) line

-- ---- private statements

-- no private statement was answered since the last shared step
abbrev pub IsFresh : {Open : Type 0} → Session Open → Type 0
IsFresh session = answered_count session.course ≡ 0

-- the private statements before the next shared step were answered, or one of them could not be
abbrev pub IsPrepared : {Open : Type 0} → Session Open → Type 0
IsPrepared session = session.course.place.stopped ≡ false → session.met ≡ None → IsReady session.course

-- what no call changes
pub record IsSameSession {Open : Type 0} (old new : Session Open) : Type 0 where
  pub actor : new.actor ≡ old.actor
  pub script : new.course.script ≡ old.course.script

-- A session has answered its private statements up to the next shared step, or those before a line, or has met one that
-- could not be answered. The place behind its last shared step is the same.
pub record PreparesTo {Open : Type 0} (until : Option ℕ) (old new : Session Open) : Type 0 where
  pub same : IsSameSession old new
  pub since : since_place new.course ≡ since_place old.course
  pub stopped : new.course.place.stopped ≡ old.course.place.stopped
  pub course : old.course.place.stopped ≡ false → new.met ≡ None → new.course ≡ skipped old.course (count_until until old.course.place.rest)
  pub prepared : until ≡ None → IsPrepared new

-- ---- shared steps

-- a journal with more entries of one actor
pub record Grows (old new : List JournalEntry) (actor : ℕ) : Type 0 where
  pub steps : List Step
  pub grown : new ≡ old ++ map (entry_of actor) steps

-- the next shared step was taken
pub record HasStepped {Open : Type 0} (old new : SpaceView) (before after : Session Open) : Type 0 where
  pub asked : SharedStep
  pub comes : next_of before ≡ next_step asked
  pub taken : Step
  pub kind : turned_of taken ≡ turn_of asked
  pub entry : new.journal ≡ entered old.journal before.actor taken
  pub fresh : IsFresh after
  pub going : after.course.place.stopped ≡ false

-- the next step is a begin, and waits for another transaction
pub record IsBusy {Open : Type 0} (old new : SpaceView) (before after : Session Open) (holder : ℕ) : Type 0 where
  pub mode : Mode
  pub comes : next_of before ≡ next.Begin mode
  pub busy : busy_of old.start old.journal mode ≡ Some holder
  pub journal : new.journal ≡ old.journal
  pub same : view_of after ≡ view_of before

-- why a session stopped: a statement was not answered, or its next shared step could not be taken or go on
pub record IsRefused {Open : Type 0} (faults : Open → ℕ) (old new : SpaceView) (before : Session Open) (line : ℕ) (reason : Cause) : Type 0 where
  pub asked : SharedStep
  pub comes : next_of before ≡ next_step asked
  pub front : front_of before.course ≡ Some (line, asked)
  -- the transaction when it was given back
  pub back : Option Open
  pub why : IsReason old new (faults_in faults before.txn) (faults_in faults back) asked reason

-- the flush that a session took where that comes next, or no step
abbrev pub IsFlushAlone : Next → List Step → Type 0
IsFlushAlone comes [] = Unit {0}
IsFlushAlone comes (taken ∷ []) = (comes ≡ next.Flush) × (turned_of taken ≡ turn.Flush)
IsFlushAlone comes (taken ∷ another ∷ more) = ⊥

-- A session stopped in this run. A flush that committed may go before the stop.
pub record HasStopped {Open : Type 0} (faults : Open → ℕ) (old new : SpaceView) (before after : Session Open) (line : ℕ) (reason : Cause) : Type 0 where
  pub flushed : List Step
  pub flushes : IsFlushAlone (next_of before) flushed
  pub entries : new.journal ≡ old.journal ++ map (entry_of before.actor) (flushed ++ step.Stop line reason Run ∷ [])
  pub stopped : after.course.place.stopped ≡ true
  pub why : (next_of before ≡ next.Stop line reason) ⊎ IsRefused faults old new before line reason

-- there was nothing to do
pub record IsOver {Open : Type 0} (old new : SpaceView) (before after : Session Open) : Type 0 where
  pub comes : next_of before ≡ next.Finished
  pub space : new ≡ old
  pub same : after ≡ before

-- What a step of a session came to.
abbrev pub Progresses : {Open : Type 0} → (Open → ℕ) → SpaceView → SpaceView → Session Open → Session Open → Progress → Type 0
Progresses faults old new before after progress.Stepped = HasStepped old new before after
Progresses faults old new before after (progress.Busy holder) = IsBusy old new before after holder
Progresses faults old new before after (progress.Stopped line reason) = HasStopped faults old new before after line reason
Progresses faults old new before after progress.Finished = IsOver old new before after

-- ---- stops

-- a stop that was taken: its entry is the journal's last
pub record Halts {Open : Type 0} (old new : SpaceView) (before after : Session Open) (taken : Step) : Type 0 where
  pub entry : new.journal ≡ entered old.journal before.actor taken
  pub stopped : after.course.place.stopped ≡ true
  pub same : IsSameSession before after

-- a transaction is open, and this is the line of the next statement
pub record IsLeft (course : CourseView) (line : ℕ) : Type 0 where
  pub going : course.place.stopped ≡ false
  pub open_is : course.is_open ≡ true
  pub first : first_line course.place.rest ≡ Some line

-- A transaction was given back with a stop of its actor, who was given up: the entry is the journal's last. The line is
-- that of the next statement, and the cause means nothing.
pub record GivesBack (old new : List JournalEntry) (actor : ℕ) : Type 0 where
  pub line : ℕ
  pub reason : Cause
  pub entry : new ≡ entered old actor (step.Stop line reason Left)

-- A session was ended: where it had no transaction open, the space is as it was, and else that was given back.
pub record Finishes {Open : Type 0} (old new : SpaceView) (session : Session Open) : Type 0 where
  pub closed : session.course.is_open ≡ false → new ≡ old
  pub given : session.course.is_open ≡ true → GivesBack old.journal new.journal session.actor
  pub grows : Grows old.journal new.journal session.actor
