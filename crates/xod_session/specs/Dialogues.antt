-- What a session has said, as it keeps it: the lines of its answers, and not the answers themselves.
use Rattle.std.specs.Prelude.{◌≡◌, ℕ, zero, suc, ◌+◌, ◌-◌, Bool, List, [], ◌∷◌, ◌++◌, drop, length, Option, Some, None, if◌then◌else◌}
use Rattle.xod_base.specs.declared.query.Query.{Query}
use Rattle.xod_base.specs.declared.answer.Reply.{Reply}
use Rattle.xod_lang.specs.declared.script.Form.{Form}
use Rattle.xod_lang.specs.declared.script.Statement.{Statement}
use Rattle.xod_journal.specs.Txns.{OpenTxn, is_hit}
use Rattle.xod_print.specs.Texts.{answer_line}
use Rattle.xod_print.specs.Rooms.{HasRoomFor}
use Rattle.xod_print.specs.declared.step.TheConstants.{STEP_ROOM, STOP_ROOM}
use Rattle.xod_session.specs.declared.dialogue.Dialogue.{Dialogue}
use Rattle.xod_session.specs.Private.{Outcome, outcome_in}
use Rattle.xod_session.specs.States.{Said}
use Rattle.xod_session.specs.Transcripts.{answers_text}
use Rattle.xod_session.specs.Variables.{Variables}

-- Variables, printed lines, counts of queries, and the queries that missed and were not handed out yet.
pub record Printed : Type 0 where
  pub variables : Variables
  pub text : List ℕ
  pub hits : ℕ
  pub misses : ℕ
  pub pending : List Query

abbrev pub printed_of : Dialogue → Printed
printed_of dialogue = record {
  variables = dialogue.variables;
  text = dialogue.text.items;
  hits = dialogue.hits;
  misses = dialogue.misses;
  pending = dialogue.pending.items;
}

-- The lines are those of what was said, and so are the counts; what missed and is pending is the end of all that missed.
pub record Prints (said : Said) (printed : Printed) : Type 0 where
  pub variables : printed.variables ≡ said.variables
  pub text : printed.text ≡ answers_text said.replies
  pub hits : printed.hits ≡ said.hits
  pub misses : printed.misses ≡ length said.missed
  pub pending : printed.pending ≡ drop (length said.missed - length printed.pending) said.missed

-- one line more
abbrev pub line_printed : Printed → ℕ → Reply → Printed
line_printed printed line answer = record printed { text = printed.text ++ answer_line line answer }

-- a query more, a hit or a miss
abbrev pub looked_up_printed : Printed → Query → Bool → Printed
looked_up_printed printed query hit =
    if hit then record printed { hits = printed.hits + 1 }
    else record printed { misses = printed.misses + 1; pending = printed.pending ++ query ∷ [] }

abbrev pub query_printed : Printed → OpenTxn → Option Query → Printed
query_printed printed txn None = printed
query_printed printed txn (Some query) = looked_up_printed printed query (is_hit txn query)

-- a private statement with an outcome
abbrev pub outcome_printed : Printed → OpenTxn → ℕ → Outcome → Printed
outcome_printed printed txn line outcome = query_printed (record (line_printed printed line outcome.reply) { variables = outcome.variables }) txn outcome.asked

-- what is printed, and the transaction, after private statements
abbrev pub Spoken : Type 0
Spoken = Printed × OpenTxn

abbrev pub spoken : ℕ → (Variables → OpenTxn → Outcome) → Printed → OpenTxn → Spoken
spoken line outcome printed txn = (outcome_printed printed txn line (outcome printed.variables txn), (outcome printed.variables txn).txn)

abbrev pub form_printed : Printed → OpenTxn → ℕ → Form → Spoken
form_printed printed txn line asked = spoken line (λ vars there. outcome_in vars there asked) printed txn

abbrev pub printed_by : ℕ → Printed → OpenTxn → List Statement → Spoken
printed_by zero printed txn rest = (printed, txn)
printed_by (suc count) printed txn [] = (printed, txn)
printed_by (suc count) printed txn (statement ∷ more) =
    printed_by count (form_printed printed txn statement.line statement.form).0 (form_printed printed txn statement.line statement.form).1 more

-- ---- room

-- room for the line of a stop
abbrev pub HasStopRoom : Dialogue → Type 0
HasStopRoom dialogue = HasRoomFor STOP_ROOM dialogue.text

-- and for that of a shared step before it
abbrev pub HasStepRoom : Dialogue → Type 0
HasStepRoom dialogue = HasRoomFor (STEP_ROOM + STOP_ROOM) dialogue.text
