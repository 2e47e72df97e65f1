-- Parts that get the names of their numbers, one after the other.
use base.Fml.{GName}
use Rattle.std.proofs.Common.{◌≡◌, ℕ, ◌<◌, Bool, IsTrue, List, [], ◌∷◌, ◌++◌, map, length, get_or, Option, Some, None, Result, Ok, Err, IfOk, OnOk, is_ok, refl, sym, ap, subst, ◌∙◌, true≢false, arith}
use Rattle.std.specs.List.{AllByRecursion, slice_get}
use Rattle.std.proofs.lemmas.List.{map-append}
use Rattle.std.proofs.lemmas.List.Elements.{All-from_recursion}
use Rattle.xod_base.specs.Causes.{Rose}
use Rattle.xod_base.specs.declared.causes.ReadError.{ReadError}
use Rattle.xod_base.specs.declared.causes.ReadError.TheVariants.{Damaged, Device, Memory}
use Rattle.xod_base.specs.Rows.{RowsValue, is_sound}
use Rattle.xod_base.specs.Views.{CountsFaults, KeepsView, Trees}
use Rattle.xod_journal.specs.Shows.{name_at}
use Rattle.xod_tables.specs.Tables.{AreTables}
use Rattle.xod_reader.specs.Naming.{NamesEach}
use Rattle.xod_reader.specs.Told.{ReadsRows}
use Rattle.xod_reader.proofs.NameLemmas.{name_at_place, none_outside}
use Rattle.xod_reader.proofs.Told.{moved, same_cause, value_rows}

-- the view is as it was, and what was named so far has its names
pub record Named {View A B : Type 0} (tells : View → Bool) (trees : View → Trees) (commit : View → ℕ) (refs : View → List GName) (faults : View → ℕ)
    (names_of : RowsValue → List (List ℕ)) (named : List (List ℕ) → ℕ × A → B) (old now : View) (done : List (ℕ × A)) (list : List B) : Type 0 where
  pub keeps : KeepsView tells trees commit refs faults old now
  pub steady : faults now ≡ faults old
  pub each : IsTrue (tells old) → (rows : RowsValue) → AreTables (trees old) rows → list ≡ map (named (names_of rows)) done

module _ {View : Type 0} {tells : View → Bool} {trees : View → Trees} {commit : View → ℕ} {refs : View → List GName} {faults : View → ℕ} where
  pub keeps_itself : (view : View) → KeepsView tells trees commit refs faults view view
  keeps_itself view = record { tells_same = refl; trees_same = refl; commit_same = refl; refs_same = refl; never_falls = omega arith }

  pub keeps_on : {old now new : View} → KeepsView tells trees commit refs faults old now → KeepsView tells trees commit refs faults now new
      → KeepsView tells trees commit refs faults old new
  keeps_on a b = record {
    tells_same = b.tells_same ∙ a.tells_same;
    trees_same = b.trees_same ∙ a.trees_same;
    commit_same = b.commit_same ∙ a.commit_same;
    refs_same = b.refs_same ∙ a.refs_same;
    never_falls = let first = a.never_falls in let then = b.never_falls in omega (arith, first, then);
  }

  module _ {A B : Type 0} {names_of : RowsValue → List (List ℕ)} {named : List (List ℕ) → ℕ × A → B} where
    pub named-begun : (view : View) (list : List B) → list ≡ [] → Named tells trees commit refs faults names_of named view view [] list
    named-begun view list none = record { keeps = keeps_itself view; steady = refl; each = λ told rows are. none }

    module _ {old now : View} {done : List (ℕ × A)} {list : List B} (h : Named tells trees commit refs faults names_of named old now done list)
        (number : ℕ) {result : Result (Option (List ℕ)) ReadError} (reads : ReadsRows (tells now) (trees now) (λ rows. slice_get (names_of rows) number) result) where
      there : ReadsRows (tells old) (trees old) (λ rows. slice_get (names_of rows) number) result
      there = moved h.keeps (λ b ts. ReadsRows b ts (λ rows. slice_get (names_of rows) number) result) reads

      -- one part more
      pub named-more : (new : View) (name : List ℕ) (part : A) (item : B) (longer : List B) → result ≡ Ok (Some name)
          → KeepsView tells trees commit refs faults now new → faults new ≡ faults now
          → ((names : List (List ℕ)) → name_at names number ≡ name → item ≡ named names (number, part)) → longer ≡ list ++ item ∷ []
          → Named tells trees commit refs faults names_of named old new (done ++ (number, part) ∷ []) longer
      named-more new name part item longer is keeps steady item_is longer_is = record {
        keeps = keeps_on h.keeps keeps;
        steady = steady ∙ h.steady;
        each = λ told rows are.
            let found = value_rows (Some name) is there told rows are in
            longer_is ∙ (λ i. h.each told rows are i ++ item_is (names_of rows) (name_at_place (names_of rows) number name (sym found)) i ∷ [])
            ∙ sym (map-append (named (names_of rows)) done ((number, part) ∷ []));
      }

      -- a name could not be read
      pub named-fails : (failed : Result (List B) ReadError) (cause : ReadError) (parts : List (ℕ × A)) → failed ≡ Err cause → result ≡ Err cause
          → NamesEach (tells old) (trees old) names_of named parts failed
      named-fails failed cause parts fails is = record {
        value = λ told rows are all. subst (λ r. IfOk r (λ list. list ≡ map (named (names_of rows)) parts)) (sym fails) tt;
        damaged = λ told rows are all place e. there.damaged told rows are place (is ∙ ap Err (same_cause cause (Damaged place) (sym fails ∙ e)));
      }

      -- a number has no name: so the trees are those of no rows that have one for each
      pub named-nameless : (cause : ReadError) (parts : List (ℕ × A)) (part : A) (k : ℕ) → result ≡ Ok None
          → (k < length parts) × ((number, part) ≡ get_or parts k (number, part))
          → NamesEach (tells old) (trees old) names_of named parts (Err cause)
      named-nameless cause parts part k is at = record {
        value = λ told rows are all. tt;
        damaged = λ told rows are all place e.
            let within : number < length (names_of rows) = subst (λ (x : ℕ × A). x.0 < length (names_of rows)) (sym at.1)
            (All-from_recursion (λ (x : ℕ × A). x.0 < length (names_of rows)) parts all k (number, part) at.0) in
            none_outside (names_of rows) number within (sym (value_rows None is there told rows are));
      }

    -- all have their names
    pub named-ends : {old now : View} {done : List (ℕ × A)} {list : List B} (parts : List (ℕ × A))
        → Named tells trees commit refs faults names_of named old now done list → done ≡ parts
        → NamesEach (tells old) (trees old) names_of named parts (Ok list)
    named-ends parts h is = record {
      value = λ told rows are all. h.each told rows are ∙ ap (map (named (names_of rows))) is;
      damaged = λ told rows are all place e. absurd (true≢false (ap is_ok e));
    }

-- how a failed call counts, behind calls that did not
pub counts_on : {A B : Type 0} {before now after : ℕ} {result : Result A ReadError} (failed : Result B ReadError) (cause : ReadError) → failed ≡ Err cause
    → result ≡ Err cause
    → now ≡ before → CountsFaults now after result → CountsFaults before after failed
counts_on {before = before} {after = after} failed cause fails is steady counts = record {
  device = λ e. subst (λ n. Rose n after) steady (counts.device (is ∙ ap Err (same_cause cause Device (sym fails ∙ e))));
  memory = λ e. counts.memory (is ∙ ap Err (same_cause cause Memory (sym fails ∙ e))) ∙ steady;
  ok = subst (λ r. OnOk r (after ≡ before)) (sym fails) tt;
}

-- memory was refused behind calls that did not fail
pub memory_counts : {B : Type 0} {before after : ℕ} (failed : Result B ReadError) → failed ≡ Err Memory → after ≡ before → CountsFaults before after failed
memory_counts {before = before} {after = after} failed fails steady = record {
  device = λ e. absurd (other_cause (same_cause Memory Device (sym fails ∙ e)));
  memory = λ e. steady;
  ok = subst (λ r. OnOk r (after ≡ before)) (sym fails) tt;
}
  where
    other_cause : Memory ≡ Device → ⊥
    other_cause e = cc e

-- ---- all parts of an entity, that were read with their numbers and have names
module _ {A B : Type 0} {tells : Bool} {trees : Trees} {names_of : RowsValue → List (List ℕ)} {named : List (List ℕ) → ℕ × A → B} {parts : List (ℕ × A)} {result : Result (List B) ReadError}
    (of_rows : RowsValue → List (ℕ × A)) (are_parts : IsTrue tells → (rows : RowsValue) → AreTables trees rows → parts ≡ of_rows rows)
    (all : (rows : RowsValue) → IsTrue (is_sound rows) → AllByRecursion (λ part. part.0 < length (names_of rows)) (of_rows rows)) where
  pub named_rows : NamesEach tells trees names_of named parts result → ReadsRows tells trees (λ rows. map (named (names_of rows)) (of_rows rows)) result
  named_rows each = record {
    value = λ told rows are. subst (λ ps. IfOk result (λ list. list ≡ map (named (names_of rows)) ps)) (are_parts told rows are) (each.value told rows are (listed told rows are));
    damaged = λ told rows are. each.damaged told rows are (listed told rows are);
  }
    where
      listed : IsTrue tells → (rows : RowsValue) → AreTables trees rows → AllByRecursion (λ part. part.0 < length (names_of rows)) parts
      listed told rows are = subst (AllByRecursion (λ part. part.0 < length (names_of rows))) (sym (are_parts told rows are)) (all rows are.sound)
