-- Calls of a view one after another, and what their answers are as answers of a statement.
use base.Fml.{GName}
use Rattle.std.proofs.Common.{◌≡◌, ℕ, Bool, true, List, refl, sym, ap, subst, ◌∙◌, arith}
use Rattle.std.specs.Prelude.{IsTrue, Result, Ok, Err}
use Rattle.xod_base.specs.declared.causes.Place.{Place}
use Rattle.xod_base.specs.declared.causes.ReadError.{ReadError}
use Rattle.xod_base.specs.declared.causes.ReadError.TheVariants as cause
use Rattle.xod_base.specs.declared.answer.Answer.{Answer}
use Rattle.xod_base.specs.declared.answer.StmtError.{StmtError}
use Rattle.xod_base.specs.declared.query.Query.{Query}
use Rattle.xod_base.specs.declared.value.EntityId.{EntityId}
use Rattle.xod_base.specs.Evaluation.{answer_of}
use Rattle.xod_base.specs.Rows.{RowsValue}
use Rattle.xod_base.specs.Views.{KeepsView, Trees}
use Rattle.xod_journal.specs.Locals.{Finds, IsExpected, found_in, is_outside}
use Rattle.xod_journal.specs.Txns.{OpenTxn}
use Rattle.xod_journal.specs.declared.change.RowChange.{RowChange}
use Rattle.xod_overlay.specs.Marks.{TouchMap}
use Rattle.xod_reader.specs.Told.{ReadsRows}
use Rattle.xod_tables.specs.Tables.{AreTables}
use Rattle.xod_estxn.specs.Refusals.{refusal_of}
use Rattle.xod_estxn.specs.Txns.{IsOver}

module _ {View : Type 0} {tells : View → Bool} {trees : View → Trees} {commit : View → ℕ} {refs : View → List GName} {faults : View → ℕ} where
  -- two calls in one
  pub keeps-then : {old now later : View} → KeepsView tells trees commit refs faults old now → KeepsView tells trees commit refs faults now later
      → KeepsView tells trees commit refs faults old later
  keeps-then first then = record {
    tells_same = then.tells_same ∙ first.tells_same;
    trees_same = then.trees_same ∙ first.trees_same;
    commit_same = then.commit_same ∙ first.commit_same;
    refs_same = then.refs_same ∙ first.refs_same;
    never_falls = let a = first.never_falls in let b = then.never_falls in omega (arith, a, b);
  }

  module _ {old now : View} (keeps : KeepsView tells trees commit refs faults old now) where
    -- what a call says of a view holds of the one before, which it was left as
    pub moved : {A : Type 0} {of_rows : RowsValue → A} {result : Result A ReadError} → ReadsRows (tells now) (trees now) of_rows result
        → ReadsRows (tells old) (trees old) of_rows result
    moved {of_rows = of_rows} {result = result} reads =
        subst (λ (ts : Trees). ReadsRows (tells old) ts of_rows result) keeps.trees_same
        (subst (λ b. ReadsRows b (trees now) of_rows result) keeps.tells_same reads)

    -- and what is kept over it is kept
    pub stays_over : {own : List RowChange} {touches : ℕ → TouchMap} → (IsTrue (tells old) → IsOver (trees old) own touches) → IsTrue (tells now)
        → IsOver (trees now) own touches
    stays_over {own} {touches} over told = subst (λ (ts : Trees). IsOver ts own touches) (sym keeps.trees_same) (over (sym keeps.tells_same ∙ told))

-- an answer of which it is known what the rows have
pub ok_rows : {A : Type 0} {tells : Bool} {trees : Trees} {of_rows : RowsValue → A} (found : A)
    → (IsTrue tells → (rows : RowsValue) → AreTables trees rows → found ≡ of_rows rows) → ReadsRows tells trees of_rows (Ok found)
ok_rows found is = record { value = λ told rows are. is told rows are; damaged = λ told rows are place e. cc e }

-- ---- as answers of a statement

refused_outside : (error : ReadError) → is_outside (refusal_of error) ≡ true
refused_outside cause.Device = refl
refused_outside (cause.Damaged place) = refl
refused_outside cause.Memory = refl

-- an error that a read answers is expected, where nothing is damaged
refused_expected : {A : Type 0} (expected : Result A StmtError) (error : ReadError) → ((place : Place) → error ≡ cause.Damaged place → ⊥)
    → IsExpected expected (Err (refusal_of error))
refused_expected expected cause.Device whole = tt
refused_expected expected (cause.Damaged place) whole = absurd (whole place refl)
refused_expected expected cause.Memory whole = tt

-- a query that is refused as its reads were
pub finds_failed : {tells : Bool} {query : Query} {txn : OpenTxn} {trees : Trees} {result : Result (List EntityId) ReadError}
    (error : ReadError) (refused : StmtError) → refused ≡ refusal_of error → result ≡ Err error
    → ReadsRows tells trees (λ rows. answer_of query rows) result → (IsTrue tells → AreTables trees txn.rows) → Finds tells query txn (Err refused)
finds_failed {query = query} {txn = txn} error refused by_cause is reads tables = record {
  outside = subst (λ e. IsTrue (is_outside e)) (sym by_cause) (refused_outside error);
  answer = λ told. subst (λ e. IsExpected {A = Answer} (Ok (found_in txn query)) (Err e)) (sym by_cause)
      (refused_expected (Ok (found_in txn query)) error (λ place damaged. reads.damaged told txn.rows (tables told) place (is ∙ ap Err damaged)));
}
