-- From what was read in one tree to what the rows have.
use base.Fml.{GName}
use Rattle.std.proofs.Common.{◌≡◌, ◌<◌, ◌^◌, ℕ, Bool, true, IsTrue, List, length, Option, Some, None, Result, Ok, Err, IfOk, IfSome, is_ok, sym, ap, subst, ◌∙◌, true≢false}
use Rattle.xod_base.specs.declared.causes.ReadError.{ReadError}
use Rattle.xod_base.specs.declared.causes.ReadError.TheVariants.{Damaged}
use Rattle.xod_base.specs.declared.answer.NameKind.{NameKind}
use Rattle.xod_base.specs.Rows.{RowsValue, are_names, number_of}
use Rattle.xod_base.specs.Views.{Answers, KeepsView, Tree, Trees}
use Rattle.xod_range.specs.Reads.{Finds, Reads}
use Rattle.xod_keys.specs.Readings.{IsNamesEnd, number_at}
use Rattle.xod_tables.specs.declared.trees.TheConstants.{NAMES, NUMBERS}
use Rattle.xod_tables.specs.LookUps.{names_of}
use Rattle.xod_tables.specs.Tables.{AreTables, names_tree, numbers_tree}
use Rattle.xod_tables.proofs.CallerLemmas.{same_some, not_none}
use Rattle.xod_readings.specs.Laws.{NamesOfRowsAreRead}
use Rattle.xod_readings.proofs.LinksListed.{by_number_of}
use Rattle.xod_reader.specs.Told.{ReadsRows}

-- what holds of an answer, by what else holds of it
each_ok : {A : Type 0} {P Q : A → Type 0} (result : Result A ReadError) → ((found : A) → P found → Q found) → IfOk result P → IfOk result Q
each_ok (Ok found) go h = go found h
each_ok (Err e) go h = tt

module _ {A : Type 0} {tells : Bool} {trees : Trees} {tree : ℕ} {result : Result A ReadError} (table : RowsValue → Tree) (of_rows : RowsValue → A)
    (stands : (rows : RowsValue) → AreTables trees rows → trees tree ≡ Some (table rows)) where
  -- what can be read in the table is what the rows have
  pub reads_rows : {read : Tree → Option A} → (IsTrue tells → (rows : RowsValue) → AreTables trees rows → read (table rows) ≡ Some (of_rows rows))
      → Reads tells (trees tree) read result → ReadsRows tells trees of_rows result
  reads_rows {read} law reads = record {
    value = λ told rows are. each_ok result (λ found is. same_some found (of_rows rows) (sym is ∙ law told rows are))
        (subst (λ o. IfSome o (λ map. IfOk result (λ found. read map ≡ Some found))) (stands rows are) (reads.value told));
    damaged = λ told rows are place is. not_none (of_rows rows)
        (sym (law told rows are) ∙ subst (λ o. IfSome o (λ map. read map ≡ None)) (stands rows are) (reads.damaged told place is));
  }

  -- what is sought in the table is what the rows have
  pub answers_rows : {sought : Tree → A} → (IsTrue tells → (rows : RowsValue) → AreTables trees rows → sought (table rows) ≡ of_rows rows)
      → Answers tells (trees tree) sought result → ReadsRows tells trees of_rows result
  answers_rows {sought} law answers = record {
    value = λ told rows are. each_ok result (λ found is. is ∙ law told rows are)
        (subst (λ o. IfSome o (λ map. IfOk result (λ found. found ≡ sought map))) (stands rows are) (answers.value told));
    damaged = λ told rows are place is. not_none (table rows) (sym (stands rows are) ∙ answers.damaged told place is);
  }

  -- whatever is wanted in the table is what the rows have
  pub finds_rows : {IsWanted : Tree → A → Type 0}
      → (IsTrue tells → (rows : RowsValue) → AreTables trees rows → (found : A) → IsWanted (table rows) found → found ≡ of_rows rows)
      → Finds tells (trees tree) IsWanted result → ReadsRows tells trees of_rows result
  finds_rows {IsWanted} law finds = record {
    value = λ told rows are. each_ok result (λ found is. law told rows are found is)
        (subst (λ o. IfSome o (λ map. IfOk result (IsWanted map))) (stands rows are) (finds.value told));
    damaged = λ told rows are place is. not_none (table rows) (sym (stands rows are) ∙ finds.damaged told place is);
  }

-- what the rows have, said another way
pub reads_as : {A : Type 0} {tells : Bool} {trees : Trees} {of_rows wanted : RowsValue → A} {result : Result A ReadError}
    → (IsTrue tells → (rows : RowsValue) → AreTables trees rows → of_rows rows ≡ wanted rows) → ReadsRows tells trees of_rows result → ReadsRows tells trees wanted result
reads_as {result = result} same reads = record {
  value = λ told rows are. each_ok result (λ found is. is ∙ same told rows are) (reads.value told rows are);
  damaged = reads.damaged;
}

-- an answer of which it is known what the rows have
pub ok_rows : {A : Type 0} {tells : Bool} {trees : Trees} {of_rows : RowsValue → A} (found : A)
    → (IsTrue tells → (rows : RowsValue) → AreTables trees rows → found ≡ of_rows rows) → ReadsRows tells trees of_rows (Ok found)
ok_rows found is = record { value = λ told rows are. is told rows are; damaged = λ told rows are place e. absurd (true≢false (ap is_ok e)) }

-- what a call answered that succeeded
pub value_rows : {A : Type 0} {tells : Bool} {trees : Trees} {of_rows : RowsValue → A} {result : Result A ReadError} (found : A) → result ≡ Ok found
    → ReadsRows tells trees of_rows result → IsTrue tells → (rows : RowsValue) → AreTables trees rows → found ≡ of_rows rows
value_rows {of_rows = of_rows} found is reads told rows are = subst (λ r. IfOk r (λ x. x ≡ of_rows rows)) is (reads.value told rows are)

pub same_cause : {B : Type 0} (a b : ReadError) → ◌≡◌ {A = Result B ReadError} (Err a) (Err b) → a ≡ b
same_cause a b e = cc e

-- a call that fails as one did that it made
pub fails_rows : {A B : Type 0} {tells : Bool} {trees : Trees} {of_rows : RowsValue → A} {wanted : RowsValue → B} {result : Result A ReadError} (failed : Result B ReadError) (cause : ReadError)
    → failed ≡ Err cause → result ≡ Err cause → ReadsRows tells trees of_rows result → ReadsRows tells trees wanted failed
fails_rows {wanted = wanted} failed cause fails is reads = record {
  value = λ told rows are. subst (λ r. IfOk r (λ found. found ≡ wanted rows)) (sym fails) tt;
  damaged = λ told rows are place e. reads.damaged told rows are place (is ∙ ap Err (same_cause cause (Damaged place) (sym fails ∙ e)));
}

module _ {View : Type 0} {tells : View → Bool} {trees : View → Trees} {commit : View → ℕ} {refs : View → List GName} {faults : View → ℕ} {old now : View} where
  -- what a call says of a view holds of the one before, which it was left as
  pub moved : KeepsView tells trees commit refs faults old now → (P : Bool → Trees → Type 0) → P (tells now) (trees now) → P (tells old) (trees old)
  moved keeps P said = subst (λ ts. P (tells old) ts) keeps.trees_same (subst (λ b. P b (trees now)) keeps.tells_same said)

-- ---- names and their numbers
module _ (laws : NamesOfRowsAreRead) (list : NameKind) {tells : Bool} {trees : Trees} where
  pub number_rows : (name : List ℕ) {result : Result (Option ℕ) ReadError} → Reads tells (trees NUMBERS) (number_at list name) result
      → ReadsRows tells trees (λ rows. number_of (names_of rows list) name) result
  number_rows name = reads_rows numbers_tree (λ rows. number_of (names_of rows list) name) (λ rows are. are.numbers) (λ told rows are. (laws rows are.sound).number list name)

  pub count_rows : {result : Result ℕ ReadError} → Finds tells (trees NAMES) (IsNamesEnd list) result
      → ReadsRows tells trees (λ rows. length (names_of rows list)) result
  count_rows = finds_rows names_tree (λ rows. length (names_of rows list)) (λ rows are. are.names) (λ told rows are. (laws rows are.sound).end list)

-- the number of a name fits in four bytes
pub number_small : (names : List (List ℕ)) → are_names names ≡ true → (name : List ℕ) (number : ℕ) → Some number ≡ number_of names name → number < 2 ^ 32
number_small names all name number is = (by_number_of names all number name (sym is)).small
