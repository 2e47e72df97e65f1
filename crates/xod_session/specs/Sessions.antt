-- A session over a journal: a function of its own script and the journal alone.
use Rattle.std.specs.Prelude.{ℕ, zero, suc, Bool, true, false, ◌&&◌, ◌||◌, List, [], ◌∷◌, drop, Option, Some, None, option_and_then, ◌==◌, nat_lt, if◌then◌else◌}
use Rattle.xod_base.specs.declared.causes.Cause.{Cause}
use Rattle.xod_base.specs.declared.answer.Reply.TheVariants as reply
use Rattle.xod_lang.specs.declared.script.Statement.{Statement}
use Rattle.xod_journal.specs.declared.journal.Step.{Step}
use Rattle.xod_journal.specs.declared.journal.Step.TheVariants as step
use Rattle.xod_journal.specs.declared.journal.JournalEntry.{JournalEntry}
use Rattle.xod_journal.specs.Standing.{Newest, newest_step}
use Rattle.xod_journal.specs.Txns.{OpenTxn}
use Rattle.xod_session.specs.States.{Said, Place, SessionState, replied}
use Rattle.xod_session.specs.Private.{answered_in}
use Rattle.xod_session.specs.Turns.{Turned, asks_then, is_private, placed_then, turned}

-- ---- private statements

-- how many private statements stand before the next shared step
abbrev pub private_count : List Statement → ℕ
private_count [] = 0
private_count (statement ∷ more) = if is_private statement.form then suc (private_count more) else 0

-- how many of them stand before a line
abbrev pub private_before : ℕ → List Statement → ℕ
private_before line [] = 0
private_before line (statement ∷ more) =
    if is_private statement.form && nat_lt statement.line line then suc (private_before line more) else 0

-- what is said, and the transaction, after the first statements
abbrev pub answered_by : ℕ → Said → OpenTxn → List Statement → Said × OpenTxn
answered_by zero said txn rest = (said, txn)
answered_by (suc count) said txn [] = (said, txn)
answered_by (suc count) said txn (statement ∷ more) =
    answered_by count (answered_in said txn statement.line statement.form).0 (answered_in said txn statement.line statement.form).1 more

-- private statements stand where a transaction is open
abbrev pub answered_with : ℕ → SessionState → Option OpenTxn → SessionState
answered_with count session None = session
answered_with count session (Some txn) = record {
  place = record session.place { rest = drop count session.place.rest };
  said = (answered_by count session.said txn session.place.rest).0;
  txn = Some (answered_by count session.said txn session.place.rest).1;
}

-- a session after its first statements
abbrev pub answered_first : ℕ → SessionState → SessionState
answered_first count session = answered_with count session session.txn

-- a session after the private statements before its next shared step
abbrev pub readied : SessionState → SessionState
readied session = answered_first (private_count session.place.rest) session

-- ---- shared steps

abbrev pub stepped : SessionState → Statement → List Statement → Option Turned → Option SessionState
stepped session statement more None = None
stepped session statement more (Some done) = Some (record {
  place = placed_then session.place session.place.due statement more done.reply;
  said = replied session.said statement.line done.reply;
  txn = done.txn;
})

-- the next statement's step
abbrev pub front_taken : Newest → SessionState → List Statement → Step → Option SessionState
front_taken now session [] taken = None
front_taken now session (statement ∷ more) taken =
    stepped session statement more (turned (asks_then session.place.due statement.form) now session.txn taken)

-- ---- stops

-- whether a line is that of a statement up to the next shared step
abbrev pub is_front : ℕ → List Statement → Bool
is_front line [] = false
is_front line (statement ∷ more) = (statement.line == line) || (is_private statement.form && is_front line more)

abbrev pub is_line : Option ℕ → ℕ → Bool
is_line None line = false
is_line (Some n) line = n == line

-- A session can stop at the line of a statement up to its next shared step, or at that of a flush that has just committed.
abbrev pub can_stop : Place → ℕ → Bool
can_stop place line = is_front line place.rest || is_line place.just line

-- a session that has stopped
abbrev pub halted : SessionState → ℕ → Cause → SessionState
halted session line cause = record {
  place = record session.place { stopped = true; just = None };
  said = replied session.said line (reply.Stop cause);
  txn = None;
}

-- The private statements before the line of a stop are answered: none where that is the line of a flush.
abbrev pub stop_taken : SessionState → ℕ → Cause → Option SessionState
stop_taken session line cause =
    if can_stop session.place line
    then Some (halted (answered_first (private_before line session.place.rest) session) line cause) else None

-- ---- own steps, and a journal

abbrev pub step_taken : Newest → SessionState → Step → Option SessionState
step_taken now session (step.Stop line cause origin) = stop_taken session line cause
step_taken now session taken = front_taken now (readied session) (readied session).place.rest taken

-- A session after a step of its own; none where that is not its next one.
unfoldable pub session_step : Newest → SessionState → Step → Option SessionState
session_step now session taken = if session.place.stopped then None else step_taken now session taken

-- entries of others leave a session as it is
abbrev pub entry_seen : Newest → ℕ → JournalEntry → Option SessionState → Option SessionState
entry_seen now actor entry session =
    if entry.actor == actor then option_and_then (λ here. session_step now here entry.step) session else session

-- A session after a journal; none where one of its own entries is not its next step.
abbrev pub session_after : Newest → ℕ → Option SessionState → List JournalEntry → Option SessionState
session_after now actor session [] = session
session_after now actor session (entry ∷ more) = session_after (newest_step now entry.step) actor (entry_seen now actor entry session) more
