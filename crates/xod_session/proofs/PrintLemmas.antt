-- What is said and what is printed go together.
use Rattle.std.proofs.Common.{◌≡◌, ℕ, zero, suc, ◌+◌, ◌-◌, true, false, cond, List, [], ◌∷◌, ◌++◌, drop, length, Option, Some, None, refl, sym, ap, subst, ◌∙◌, arith, length-append, append-nil}
use Rattle.std.proofs.lemmas.List.Concat.{flat_map-append}
use Rattle.std.proofs.lemmas.List.{drop-append-le}
use Rattle.xod_base.specs.declared.answer.Reply.{Reply}
use Rattle.xod_base.specs.declared.query.Query.{Query}
use Rattle.xod_lang.specs.declared.script.Form.{Form}
use Rattle.xod_lang.specs.declared.script.Statement.{Statement}
use Rattle.xod_journal.specs.Txns.{OpenTxn, is_hit}
use Rattle.xod_print.specs.Texts.{answer_line}
use Rattle.xod_session.specs.Dialogues.{Printed, Prints, form_printed, line_printed, looked_up_printed, outcome_printed, printed_by, query_printed}
use Rattle.xod_session.specs.Private.{Outcome, answered_in, looked_up, outcome_in, said_by}
use Rattle.xod_session.specs.Sessions.{answered_by, answered_first, answered_with}
use Rattle.xod_session.specs.States.{Said, SessionState, replied}
use Rattle.xod_session.specs.Transcripts.{answered_text, answers_text}
use Rattle.xod_session.specs.Variables.{Variables}

text_replied : (said : Said) (printed : Printed) (line : ℕ) (answer : Reply) → printed.text ≡ answers_text said.replies → printed.text ++ answer_line line answer ≡ answers_text (replied said line answer).replies
text_replied said printed line answer is =
    ap (λ t. t ++ answer_line line answer) is
    ∙ ap (λ t. answers_text said.replies ++ t) (sym (append-nil (answer_line line answer)))
    ∙ sym (flat_map-append answered_text said.replies (record { line = line; reply = answer } ∷ []))

pub prints-line : (said : Said) (printed : Printed) (line : ℕ) (answer : Reply) → Prints said printed → Prints (replied said line answer) (line_printed printed line answer)
prints-line said printed line answer p = record { variables = p.variables; text = text_replied said printed line answer p.text; hits = p.hits; misses = p.misses; pending = p.pending }

-- a query that missed goes to the end of both lists
pending_on : (missed pending : List Query) (query : Query) → pending ≡ drop (length missed - length pending) missed → pending ++ query ∷ [] ≡ drop (length (missed ++ query ∷ []) - length (pending ++ query ∷ [])) (missed ++ query ∷ [])
pending_on missed pending query is =
    ap (λ l. l ++ query ∷ []) is
    ∙ sym (drop-append-le (length missed - length pending) missed (query ∷ []) (omega arith))
    ∙ ap (λ n. drop n (missed ++ query ∷ [])) (omega (arith, length-append missed (query ∷ []), length-append pending (query ∷ [])))

prints-looked_up : (said : Said) (printed : Printed) (txn : OpenTxn) (asked : Option Query) → Prints said printed → Prints (looked_up said txn asked) (query_printed printed txn asked)
prints-looked_up said printed txn None p = p
prints-looked_up said printed txn (Some query) p =
    elim (is_hit txn query) as (λ b. Prints (cond b (record said { hits = said.hits + 1 }) (record said { missed = said.missed ++ query ∷ [] })) (looked_up_printed printed query b)) [
      | true ↦ record { variables = p.variables; text = p.text; hits = ap (λ n. n + 1) p.hits; misses = p.misses; pending = p.pending }
      | false ↦ record {
        variables = p.variables;
        text = p.text;
        hits = p.hits;
        misses = ap (λ n. n + 1) p.misses ∙ sym (length-append said.missed (query ∷ []));
        pending = pending_on said.missed printed.pending query p.pending;
      }
    ]

pub prints-said : (said : Said) (printed : Printed) (txn : OpenTxn) (line : ℕ) (outcome : Outcome) → Prints said printed → Prints (said_by said txn line outcome).0 (outcome_printed printed txn line outcome)
prints-said said printed txn line outcome p =
    prints-looked_up (record (replied said line outcome.reply) { variables = outcome.variables }) (record (line_printed printed line outcome.reply) { variables = outcome.variables }) txn outcome.asked
    (record { variables = refl; text = text_replied said printed line outcome.reply p.text; hits = p.hits; misses = p.misses; pending = p.pending })

-- private statements in a row
pub record PrintsBy (heard : Said × OpenTxn) (printed : Printed × OpenTxn) : Type 0 where
  pub said : Prints heard.0 printed.0
  pub txn : heard.1 ≡ printed.1

prints-form : (said : Said) (printed : Printed) (txn : OpenTxn) (line : ℕ) (f : Form) → Prints said printed → PrintsBy (answered_in said txn line f) (form_printed printed txn line f)
prints-form said printed txn line f p =
    subst (λ (v : Variables). PrintsBy (answered_in said txn line f) (outcome_printed printed txn line (outcome_in v txn f), (outcome_in v txn f).txn)) (sym p.variables)
    (record { said = prints-said said printed txn line (outcome_in said.variables txn f) p; txn = refl })

pub prints-row : (count : ℕ) (said : Said) (printed : Printed) (txn : OpenTxn) (rest : List Statement) → Prints said printed → PrintsBy (answered_by count said txn rest) (printed_by count printed txn rest)
prints-row zero said printed txn rest p = record { said = p; txn = refl }
prints-row (suc count) said printed txn [] p = record { said = p; txn = refl }
prints-row (suc count) said printed txn (statement ∷ more) p =
    let one = prints-form said printed txn statement.line statement.form p in
    let a = answered_in said txn statement.line statement.form in
    let b = form_printed printed txn statement.line statement.form in
    subst (λ (t : OpenTxn). PrintsBy (answered_by count a.0 t more) (printed_by count b.0 b.1 more)) (sym one.txn) (prints-row count a.0 b.0 b.1 more one.said)

-- ---- statements after statements

none_more : (m : ℕ) (said : Said) (txn : OpenTxn) → answered_by m said txn [] ≡ (said, txn)
none_more zero said txn = refl
none_more (suc m) said txn = refl

pub answered_by-add : (n m : ℕ) (said : Said) (txn : OpenTxn) (rest : List Statement) → answered_by m (answered_by n said txn rest).0 (answered_by n said txn rest).1 (drop n rest) ≡ answered_by (n + m) said txn rest
answered_by-add zero m said txn rest = ap (λ k. answered_by k said txn rest) (omega arith)
answered_by-add (suc n) m said txn [] = none_more m said txn ∙ sym (none_more (suc n + m) said txn)
answered_by-add (suc n) m said txn (statement ∷ more) =
    let sum : suc (n + m) ≡ suc n + m = omega arith in
    answered_by-add n m (answered_in said txn statement.line statement.form).0 (answered_in said txn statement.line statement.form).1 more
    ∙ ap (λ k. answered_by k said txn (statement ∷ more)) sum

zero_answered : (s : SessionState) (txn : Option OpenTxn) → s.txn ≡ txn → answered_with 0 s txn ≡ s
zero_answered s None is = refl
zero_answered s (Some t) is = λ i. record { place = s.place; said = s.said; txn = sym is i }

pub answered_zero : (s : SessionState) → answered_first 0 s ≡ s
answered_zero s = zero_answered s s.txn refl
