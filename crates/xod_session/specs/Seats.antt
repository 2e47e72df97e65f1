-- A session and a space that it plays over: where the one is by the journal of the other.
use Rattle.std.specs.Prelude.{◌≡◌, ◌≤◌, ℕ, Bool, false, IsTrue, List, Option, Some, is_none, is_some, option_map}
use Rattle.xod_base.specs.declared.causes.Cause.{Cause}
use Rattle.xod_base.specs.declared.query.Query.{Query}
use Rattle.xod_lang.specs.declared.script.Statement.{Statement}
use Rattle.xod_journal.specs.declared.journal.JournalEntry.{JournalEntry}
use Rattle.xod_journal.specs.declared.journal.Origin.{Origin}
use Rattle.xod_journal.specs.Seats.{seat_of}
use Rattle.xod_journal.specs.Spaces.{CanStop, SpaceView, faults_in}
use Rattle.xod_journal.specs.Standing.{Newest}
use Rattle.xod_journal.specs.Txns.{OpenTxn, pinned_of}
use Rattle.xod_session.specs.declared.row.Halt.{Halt}
use Rattle.xod_session.specs.declared.session.Session.{Session}
use Rattle.xod_session.specs.Answers.{IsMetBy}
use Rattle.xod_session.specs.Courses.{CourseView, IsCourse, StopsAt, answered_count}
use Rattle.xod_session.specs.Dialogues.{Printed, Prints, printed_of}
use Rattle.xod_session.specs.Sessions.{answered_first, session_after}
use Rattle.xod_session.specs.States.{SessionState, opened}
use Rattle.xod_session.specs.Transcripts.{answers_text}

-- ---- what a session tells of itself

abbrev pub text_in : {Open : Type 0} → Session Open → List ℕ
text_in session = session.said.text.items

-- how many queries hit, and how many missed
abbrev pub counts_in : {Open : Type 0} → Session Open → ℕ × ℕ
counts_in session = (session.said.hits, session.said.misses)

-- the queries that missed and were not handed out yet
abbrev pub pending_in : {Open : Type 0} → Session Open → List Query
pending_in session = session.said.pending.items

-- what a session has
pub record SessionView (Open : Type 0) : Type 0 where
  pub actor : ℕ
  pub course : CourseView
  pub printed : Printed
  pub txn : Option Open
  pub met : Option Halt

abbrev pub view_of : {Open : Type 0} → Session Open → SessionView Open
view_of session = record { actor = session.actor; course = session.course; printed = printed_of session.said; txn = session.txn; met = session.met }

-- a session that hands out some of these
abbrev pub with_pending : {Open : Type 0} → SessionView Open → List Query → SessionView Open
with_pending session pending = record session { printed = record session.printed { pending = pending } }

-- ---- by a journal

-- A session is where its script and a journal have come, or further by the private statements that it has answered since.
-- `txn_is` is not said of a transaction whose last statement was not answered.
pub record IsAt (start : Newest) (journal : List JournalEntry) (actor : ℕ) (course : CourseView) (printed : Printed) (txn : Option OpenTxn) (is_known : Bool) : Type 0 where
  pub come : SessionState
  pub is : session_after start actor (Some (opened course.script)) journal ≡ Some come
  pub since : course.since ≡ come.place.rest
  pub place : course.place ≡ record come.place { rest = course.place.rest }
  pub open_is : is_some come.txn ≡ course.is_open
  pub said : Prints (answered_first (answered_count course) come).said printed
  pub txn_is : IsTrue is_known → txn ≡ (answered_first (answered_count course) come).txn

-- What a session and a space have in common: the session is where its script and the space's journal have come, and the
-- journal has its transaction open, or its stop. Nothing of this asks for told rows but the first.
pub record PlaysAs {Open : Type 0} (tells : Open → Bool) (txn : Open → OpenTxn) (faults : Open → ℕ) (space : SpaceView) (session : SessionView Open) : Type 0 where
  pub course : IsCourse session.course
  pub known : IsTrue space.tells → IsAt space.start space.journal session.actor session.course session.printed (option_map txn session.txn) (is_none session.met)
  pub seat : seat_of space.start space.journal session.actor ≡ Some (session.course.place.stopped, option_map pinned_of (option_map txn session.txn))
  pub told : (one : Open) → session.txn ≡ Some one → IsTrue space.tells → IsTrue (tells one)
  pub least : 1 ≤ session.actor
  pub most : session.actor ≤ space.sessions
  pub met : (halt : Halt) → session.met ≡ Some halt → StopsAt session.course halt.line × IsMetBy space.tells (faults_in faults session.txn) halt.cause

abbrev pub Plays : {Open : Type 0} → (Open → Bool) → (Open → OpenTxn) → (Open → ℕ) → SpaceView → Session Open → Type 0
Plays tells txn faults space session = PlaysAs tells txn faults space (view_of session)

-- The transaction of a session can be given back with a stop at a line, for a cause of that origin. What it has changed
-- by the last statement need not be known.
pub record IsStoppable {Open : Type 0} (txn : Open → OpenTxn) (faults : Open → ℕ) (space : SpaceView) (session : SessionView Open) (line : ℕ) (reason : Cause) (from : Origin) : Type 0 where
  pub course : IsCourse session.course
  pub going : session.course.place.stopped ≡ false
  pub known : IsTrue space.tells → IsAt space.start space.journal session.actor session.course session.printed (option_map txn session.txn) false
  pub stops : StopsAt session.course line
  pub can : CanStop space session.actor (is_some session.txn) (faults_in faults session.txn) reason from

-- Printed lines are those of what a session has said by a journal.
pub record IsSaid (start : Newest) (journal : List JournalEntry) (actor : ℕ) (script : List Statement) (text : List ℕ) : Type 0 where
  pub come : SessionState
  pub is : session_after start actor (Some (opened script)) journal ≡ Some come
  pub text_is : text ≡ answers_text come.said.replies

-- A session without an open transaction is where its script and the journal have come.
pub record Rests (start : Newest) (journal : List JournalEntry) (actor : ℕ) (course : CourseView) (printed : Printed) : Type 0 where
  pub come : SessionState
  pub is : session_after start actor (Some (opened course.script)) journal ≡ Some come
  pub place : come.place ≡ course.place
  pub said : Prints come.said printed
