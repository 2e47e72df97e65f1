-- What was read where rows are such as a call was told, and what it says of all rows that are so.
use Rattle.std.proofs.Common.{◌≡◌, ℕ, Bool, IsTrue, Option, Some, None, Result, Ok, Err, IfOk, IfSome, is_ok, sym, ap, subst, ◌∙◌, true≢false}
use Rattle.xod_base.specs.declared.causes.ReadError.{ReadError}
use Rattle.xod_base.specs.declared.causes.ReadError.TheVariants.{Damaged}
use Rattle.xod_base.specs.Rows.{RowsValue}
use Rattle.xod_base.specs.Views.{Answers, Tree, Trees}
use Rattle.xod_range.specs.Reads.{Reads}
use Rattle.xod_tables.specs.Tables.{AreTables}
use Rattle.xod_tables.proofs.CallerLemmas.{same_some, not_none}
use Rattle.xod_reader.specs.Told.{ReadsRows}
use Rattle.xod_reader.proofs.CallerLemmas.{same_cause}
use Rattle.xod_iter.specs.Such.{ReadsSuch}

each_ok : {A : Type 0} {P Q : A → Type 0} (result : Result A ReadError) → ((found : A) → P found → Q found) → IfOk result P → IfOk result Q
each_ok (Ok found) go h = go found h
each_ok (Err e) go h = tt

module _ {A : Type 0} {IsSuch : RowsValue → Type 0} {tells : Bool} {trees : Trees} {result : Result A ReadError} where
  -- rows that are known to be so
  pub such_rows : {of_rows : RowsValue → A} → (IsTrue tells → (rows : RowsValue) → AreTables trees rows → IsSuch rows)
      → ReadsSuch IsSuch tells trees of_rows result → ReadsRows tells trees of_rows result
  such_rows such reads = record {
    value = λ told rows are. reads.value told rows are (such told rows are);
    damaged = λ told rows are. reads.damaged told rows are (such told rows are);
  }

  module _ {tree : ℕ} (table : RowsValue → Tree) (of_rows : RowsValue → A) (stands : (rows : RowsValue) → AreTables trees rows → trees tree ≡ Some (table rows)) where
    -- what can be read in the table is what such rows have
    pub reads_such : {read : Tree → Option A} → ((rows : RowsValue) → AreTables trees rows → IsSuch rows → read (table rows) ≡ Some (of_rows rows))
        → Reads tells (trees tree) read result → ReadsSuch IsSuch tells trees of_rows result
    reads_such {read} law reads = record {
      value = λ told rows are such. each_ok result (λ found is. same_some found (of_rows rows) (sym is ∙ law rows are such))
          (subst (λ o. IfSome o (λ map. IfOk result (λ found. read map ≡ Some found))) (stands rows are) (reads.value told));
      damaged = λ told rows are such place is. not_none (of_rows rows)
          (sym (law rows are such) ∙ subst (λ o. IfSome o (λ map. read map ≡ None)) (stands rows are) (reads.damaged told place is));
    }

    -- what is sought in the table is what such rows have
    pub answers_such : {sought : Tree → A} → ((rows : RowsValue) → AreTables trees rows → IsSuch rows → sought (table rows) ≡ of_rows rows)
        → Answers tells (trees tree) sought result → ReadsSuch IsSuch tells trees of_rows result
    answers_such {sought} law answers = record {
      value = λ told rows are such. each_ok result (λ found is. is ∙ law rows are such)
          (subst (λ o. IfSome o (λ map. IfOk result (λ found. found ≡ sought map))) (stands rows are) (answers.value told));
      damaged = λ told rows are such place is. not_none (table rows) (sym (stands rows are) ∙ answers.damaged told place is);
    }

-- an answer of which it is known what such rows have
pub ok_such : {A : Type 0} {IsSuch : RowsValue → Type 0} {tells : Bool} {trees : Trees} {of_rows : RowsValue → A} (found : A)
    → (IsTrue tells → (rows : RowsValue) → AreTables trees rows → IsSuch rows → found ≡ of_rows rows) → ReadsSuch IsSuch tells trees of_rows (Ok found)
ok_such found is = record { value = is; damaged = λ told rows are such place e. absurd (true≢false (ap is_ok e)) }

-- what a call answered that succeeded
pub value_such : {A : Type 0} {IsSuch : RowsValue → Type 0} {tells : Bool} {trees : Trees} {of_rows : RowsValue → A} {result : Result A ReadError} (found : A) → result ≡ Ok found
    → ReadsSuch IsSuch tells trees of_rows result → IsTrue tells → (rows : RowsValue) → AreTables trees rows → IsSuch rows → found ≡ of_rows rows
value_such {of_rows = of_rows} found is reads told rows are such = subst (λ r. IfOk r (λ x. x ≡ of_rows rows)) is (reads.value told rows are such)

-- a call that fails as one did that it made
pub fails_such : {A B : Type 0} {IsSuch : RowsValue → Type 0} {tells : Bool} {trees : Trees} {of_rows : RowsValue → A} {wanted : RowsValue → B} {result : Result A ReadError} (failed : Result B ReadError) (cause : ReadError)
    → failed ≡ Err cause → result ≡ Err cause → ReadsSuch IsSuch tells trees of_rows result → ReadsSuch IsSuch tells trees wanted failed
fails_such {wanted = wanted} failed cause fails is reads = record {
  value = λ told rows are such. subst (λ r. IfOk r (λ found. found ≡ wanted rows)) (sym fails) tt;
  damaged = λ told rows are such place e. reads.damaged told rows are such place (is ∙ ap Err (same_cause cause (Damaged place) (sym fails ∙ e)));
}
