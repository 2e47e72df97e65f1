-- What private statements are answered: those that a session's own transaction answers.
use Rattle.std.specs.Prelude.{ℕ, ◌+◌, length, List, [], ◌∷◌, ◌++◌, Option, Some, None, Result, Ok, Err, if◌then◌else◌}
use Rattle.std.specs.FinMap.{insert}
use Rattle.xod_base.specs.declared.query.Act.{Act}
use Rattle.xod_base.specs.declared.query.Act.TheVariants as act
use Rattle.xod_base.specs.declared.query.Query.{Query}
use Rattle.xod_base.specs.declared.answer.ActAnswer.{ActAnswer}
use Rattle.xod_base.specs.declared.answer.ActAnswer.TheVariants.{Made}
use Rattle.xod_base.specs.declared.answer.Shown.{Shown}
use Rattle.xod_base.specs.declared.answer.StmtError.{StmtError}
use Rattle.xod_base.specs.declared.answer.Reply.{Reply}
use Rattle.xod_base.specs.declared.answer.Reply.TheVariants as reply
use Rattle.xod_base.specs.Evaluation.{answer_of}
use Rattle.xod_lang.specs.declared.script.Form.{Form}
use Rattle.xod_lang.specs.declared.script.Form.TheVariants as form
use Rattle.xod_journal.specs.declared.change.RowChange.{RowChange}
use Rattle.xod_journal.specs.Changes.{act_outcome, outcome_of}
use Rattle.xod_journal.specs.Shows.{shown_of}
use Rattle.xod_journal.specs.Txns.{OpenTxn, is_hit, txn_acted}
use Rattle.xod_session.specs.Variables.{Variables, filled, first_unset, id_in, words_of}
use Rattle.xod_session.specs.States.{Said, replied}

-- What a private statement comes to: its answer, the variables and the transaction after it, and the query that it asked.
pub record Outcome : Type 0 where
  pub reply : Reply
  pub variables : Variables
  pub txn : OpenTxn
  pub asked : Option Query

-- an answer that changes nothing
abbrev pub plain : Variables → OpenTxn → Reply → Outcome
plain vars txn answer = record { reply = answer; variables = vars; txn = txn; asked = None }

-- ---- acts

abbrev pub act_reply : Result ActAnswer StmtError → Reply
act_reply (Ok answer) = reply.Acted answer
act_reply (Err error) = reply.Refused error

abbrev pub changed_by : Variables → OpenTxn → Result (List RowChange) StmtError → Outcome
changed_by vars txn outcome = record { reply = act_reply (act_outcome outcome); variables = vars; txn = txn_acted txn outcome; asked = None }

-- an act: its answer or its refusal, and its changes
abbrev pub acted : Variables → OpenTxn → Act → Outcome
acted vars txn asked = changed_by vars txn (outcome_of txn.mode txn.rows asked)

-- a `new` that succeeded sets its variable; a refused one leaves it as it was
abbrev pub with_made : Variables → List ℕ → Result ActAnswer StmtError → Variables
with_made vars name (Ok (Made id)) = insert vars name id
with_made vars name other = vars

abbrev pub made : Variables → OpenTxn → List ℕ → List ℕ → Outcome
made vars txn kind name =
    record (acted vars txn (act.New kind)) { variables = with_made vars name (act_outcome (outcome_of txn.mode txn.rows (act.New kind))) }

-- ---- reading

abbrev pub show_reply : Result Shown StmtError → Reply
show_reply (Ok shown) = reply.Shown shown
show_reply (Err error) = reply.Refused error

abbrev pub found : Variables → OpenTxn → Query → Outcome
found vars txn query = record { reply = reply.Ids (answer_of query txn.rows); variables = vars; txn = txn; asked = Some query }

abbrev pub counted : Variables → OpenTxn → Query → Outcome
counted vars txn query = record { reply = reply.Count (length (answer_of query txn.rows)); variables = vars; txn = txn; asked = Some query }

-- ---- statements

-- a private statement all of whose variables are set
abbrev pub outcome_with : Variables → OpenTxn → Form → Outcome
outcome_with vars txn (form.New kind name) = made vars txn kind name
outcome_with vars txn (form.Delete ent) = acted vars txn (act.Delete (id_in vars ent))
outcome_with vars txn (form.Set ent prop value) = acted vars txn (act.Set (id_in vars ent) prop value)
outcome_with vars txn (form.Unset ent prop) = acted vars txn (act.Unset (id_in vars ent) prop)
outcome_with vars txn (form.Link source link target) = acted vars txn (act.Link (id_in vars source) link (id_in vars target))
outcome_with vars txn (form.SetLink source link target) = acted vars txn (act.SetLink (id_in vars source) link (id_in vars target))
outcome_with vars txn (form.Unlink source link target) = acted vars txn (act.Unlink (id_in vars source) link (id_in vars target))
outcome_with vars txn (form.UnlinkAll source link) = acted vars txn (act.UnlinkAll (id_in vars source) link)
outcome_with vars txn (form.Show ent) = plain vars txn (show_reply (shown_of txn.rows (id_in vars ent)))
outcome_with vars txn (form.Query draft) = found vars txn (filled vars draft)
outcome_with vars txn (form.Count draft) = counted vars txn (filled vars draft)
outcome_with vars txn other = plain vars txn reply.Ended

abbrev pub outcome_unless : Variables → OpenTxn → Form → Option (List ℕ) → Outcome
outcome_unless vars txn asked None = outcome_with vars txn asked
outcome_unless vars txn asked (Some name) = plain vars txn (reply.Unset name)

-- A private statement. One that names an unset variable is refused before all else, the first one left to right.
abbrev pub outcome_in : Variables → OpenTxn → Form → Outcome
outcome_in vars txn asked = outcome_unless vars txn asked (first_unset vars (words_of asked))

-- ---- what is said

-- a query counts as a hit or as missed
abbrev pub looked_up : Said → OpenTxn → Option Query → Said
looked_up said txn None = said
looked_up said txn (Some query) =
    if is_hit txn query then record said { hits = said.hits + 1 } else record said { missed = said.missed ++ query ∷ [] }

-- what is said, and the transaction, after a private statement with an outcome
abbrev pub said_by : Said → OpenTxn → ℕ → Outcome → Said × OpenTxn
said_by said txn line outcome = (
  looked_up (record (replied said line outcome.reply) { variables = outcome.variables }) txn outcome.asked,
  outcome.txn,
)

abbrev pub answered_in : Said → OpenTxn → ℕ → Form → Said × OpenTxn
answered_in said txn line asked = said_by said txn line (outcome_in said.variables txn asked)
