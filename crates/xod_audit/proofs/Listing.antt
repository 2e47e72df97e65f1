-- Lists that are read item by item: what was read so far, and what is still to be read.
use base.Fml.{GName}
use Rattle.std.proofs.Common.{◌≡◌, ℕ, suc, ◌+◌, ◌-◌, ◌<◌, ◌≤◌, Bool, true, false, cond, ◌&&◌, List, [], ◌∷◌, ◌++◌, drop, Option, Some, None, Ok, refl, sym, ap, ◌∙◌, true≢false, arith}
use Rattle.std.specs.Prelude.{IsTrue, is_some}
use Rattle.std.specs.Option.{option_map}
use Rattle.std.specs.List.{list_all}
use Rattle.std.specs.FinMap.{get}
use Rattle.std.proofs.lemmas.List.{append_assoc, append-nil}
use Rattle.xod_base.specs.declared.answer.NameKind.{NameKind}
use Rattle.xod_base.specs.Rows.{is_name}
use Rattle.xod_base.specs.Views.{Tree, Trees}
use Rattle.xod_tables.specs.Keys.{u32, name_key, number_key, next_key}
use Rattle.xod_tables.specs.Reading.{is_written, tree_at}
use Rattle.xod_tables.specs.declared.trees.TheConstants.{NUMBERS}
use Rattle.xod_carry.specs.Carry.{numbered}
use Rattle.xod_keys.specs.Readings.{read_behind}
use Rattle.xod_audit.specs.Checks.{names_that}
use Rattle.xod_audit.specs.Looks.{Looks}
use Rattle.xod_audit.specs.Tests.{are_there, next_in, next_there, names_from, nexts_from, then_names}
use Rattle.xod_audit.proofs.Looked.{Steady, steady-itself, steady-then, looks-done}

-- what was read, before what is still to be read
abbrev pub reads_on : {A : Type 0} → List A → Option (List A) → Option (List A)
reads_on so_far more = option_map (λ list. so_far ++ list) more

reads_none : {A : Type 0} (o : Option (List A)) → o ≡ reads_on [] o
reads_none None = refl
reads_none (Some list) = refl

read_more : {A : Type 0} (so_far : List A) (item : A) (more : Option (List A)) → reads_on so_far (read_behind (Some item) more) ≡ reads_on (so_far ++ item ∷ []) more
read_more so_far item None = refl
read_more so_far item (Some list) = ap (λ (l : List _). Some l) (sym (append_assoc so_far (item ∷ []) list))

-- What was read of a list: the view is as it was, and all that there is to read is what was read, and then what is left.
pub record Listing {A View : Type 0} (tells : View → Bool) (trees : View → Trees) (commit : View → ℕ) (refs : View → List GName) (faults : View → ℕ)
    (total rest : Trees → Option (List A)) (old now : View) (so_far : List A) : Type 0 where
  pub steady : Steady tells trees commit refs faults old now
  pub reads : IsTrue (tells old) → IsTrue (are_there (trees old)) → total (trees old) ≡ reads_on so_far (rest (trees old))

module _ {A View : Type 0} {tells : View → Bool} {trees : View → Trees} {commit : View → ℕ} {refs : View → List GName} {faults : View → ℕ} {total rest : Trees → Option (List A)} where
  pub listing-begins : (old : View) (none : List A) → none ≡ [] → ((ts : Trees) → total ts ≡ rest ts) → Listing tells trees commit refs faults total rest old old none
  listing-begins old none is same = record { steady = steady-itself old; reads = λ told there. same (trees old) ∙ reads_none (rest (trees old)) ∙ ap (λ l. reads_on l (rest (trees old))) (sym is) }

  pub listing-goes_on : (next : Trees → Option (List A)) (old now new : View) (so_far : List A) (item : A) (longer : List A) → Listing tells trees commit refs faults total rest old now so_far → Steady tells trees commit refs faults now new
      → (IsTrue (tells old) → IsTrue (are_there (trees old)) → rest (trees old) ≡ read_behind (Some item) (next (trees old))) → longer ≡ so_far ++ item ∷ []
      → Listing tells trees commit refs faults total next old new longer
  listing-goes_on next old now new so_far item longer l s one is = record {
    steady = steady-then old now new l.steady s;
    reads = λ told there. l.reads told there ∙ ap (reads_on so_far) (one told there) ∙ read_more so_far item (next (trees old)) ∙ ap (λ k. reads_on k (next (trees old))) (sym is);
  }

  pub listing-fails : (old now new : View) (so_far : List A) → Listing tells trees commit refs faults total rest old now so_far → Steady tells trees commit refs faults now new
      → (IsTrue (tells old) → IsTrue (are_there (trees old)) → rest (trees old) ≡ None) → Looks tells trees commit refs faults old new total (Ok None)
  listing-fails old now new so_far l s none = looks-done old new total None (steady-then old now new l.steady s) (λ told there. sym (l.reads told there ∙ ap (reads_on so_far) (none told there)))

  pub listing-ends : (old now new : View) (so_far : List A) → Listing tells trees commit refs faults total rest old now so_far → Steady tells trees commit refs faults now new
      → (IsTrue (tells old) → IsTrue (are_there (trees old)) → rest (trees old) ≡ Some []) → Looks tells trees commit refs faults old new total (Ok (Some so_far))
  listing-ends old now new so_far l s end = looks-done old new total (Some so_far) (steady-then old now new l.steady s)
      (λ told there. sym (l.reads told there ∙ ap (reads_on so_far) (end told there) ∙ ap Some (append-nil so_far)))

-- ---- names

module _ (t : Tree) (list : NameKind) (number : ℕ) where
  name_next : number < 4096 → names_from t list (4096 - number) number ≡ then_names (get t (name_key list number)) (names_from t list (4096 - (number + 1)) (number + 1))
  unfolding names_from
  name_next h = let room : 4096 - number ≡ suc (4096 - (number + 1)) = omega (arith, h) in let next : suc number ≡ number + 1 = omega arith in
      ap (λ n. names_from t list n number) room ∙ once (4096 - (number + 1)) ∙ ap (λ n. then_names (get t (name_key list number)) (names_from t list (4096 - (number + 1)) n)) next
    where
      once : (room : ℕ) → names_from t list (suc room) number ≡ then_names (get t (name_key list number)) (names_from t list room (suc number))
      once room = refl

  pub names_over : 4096 ≤ number → names_that (names_from t list (4096 - number) number) ≡ Some []
  unfolding names_from
  names_over h = let room : 4096 - number ≡ 0 = omega (arith, h) in ap (λ n. names_that (names_from t list n number)) room ∙ ap names_that none
    where
      none : names_from t list 0 number ≡ []
      none = refl

  pub names_none : number < 4096 → get t (name_key list number) ≡ None → names_that (names_from t list (4096 - number) number) ≡ Some []
  names_none h is = ap names_that (name_next h) ∙ ap (λ o. names_that (then_names o (names_from t list (4096 - (number + 1)) (number + 1)))) is

  pub names_bad : (bytes : List ℕ) → number < 4096 → get t (name_key list number) ≡ Some bytes → is_name bytes ≡ false → names_that (names_from t list (4096 - number) number) ≡ None
  names_bad bytes h is bad =
      let more = names_from t list (4096 - (number + 1)) (number + 1) in
      ap names_that (name_next h) ∙ ap (λ o. names_that (then_names o more)) is ∙ ap (λ b. cond (b && list_all is_name more) (Some (bytes ∷ more)) None) bad

  pub names_some : (name : List ℕ) → number < 4096 → get t (name_key list number) ≡ Some name → is_name name ≡ true
      → names_that (names_from t list (4096 - number) number) ≡ read_behind (Some name) (names_that (names_from t list (4096 - (number + 1)) (number + 1)))
  names_some name h is good =
      let more = names_from t list (4096 - (number + 1)) (number + 1) in
      ap names_that (name_next h) ∙ ap (λ o. names_that (then_names o more)) is ∙ ap (λ b. cond (b && list_all is_name more) (Some (name ∷ more)) None) good ∙ at (list_all is_name more) more
    where
      at : (b : Bool) (more : List (List ℕ)) → cond b (Some (name ∷ more)) None ≡ read_behind (Some name) (cond b (Some more) None)
      at true more = refl
      at false more = refl

pub is_good : (bytes name : List ℕ) → Some name ≡ cond (is_name bytes) (Some bytes) None → (is_name bytes ≡ true) × (bytes ≡ name)
is_good bytes name e = at (is_name bytes) e
  where
    at : (b : Bool) → Some name ≡ cond b (Some bytes) None → (b ≡ true) × (bytes ≡ name)
    at true e = (refl, cc e)
    at false e = absurd (true≢false (ap is_some e))

pub is_bad : (bytes : List ℕ) → None ≡ cond (is_name bytes) (Some bytes) None → is_name bytes ≡ false
is_bad bytes e = at (is_name bytes) e
  where
    at : (b : Bool) → None ≡ cond b (Some bytes) None → b ≡ false
    at true e = absurd (true≢false (sym (ap is_some e)))
    at false e = refl

-- ---- next numbers

module _ (t : Tree) (count kind : ℕ) where
  next_step : kind < count → nexts_from t (count - kind) kind ≡ read_behind (next_there (get t (next_key kind))) (nexts_from t (count - (kind + 1)) (kind + 1))
  unfolding nexts_from
  next_step h = let left : count - kind ≡ suc (count - (kind + 1)) = omega (arith, h) in let next : suc kind ≡ kind + 1 = omega arith in
      ap (λ n. nexts_from t n kind) left ∙ once (count - (kind + 1)) ∙ ap (λ n. read_behind (next_there (get t (next_key kind))) (nexts_from t (count - (kind + 1)) n)) next
    where
      once : (left : ℕ) → nexts_from t (suc left) kind ≡ read_behind (next_there (get t (next_key kind))) (nexts_from t left (suc kind))
      once left = refl

  pub nexts_over : count ≤ kind → nexts_from t (count - kind) kind ≡ Some []
  unfolding nexts_from
  nexts_over h = let left : count - kind ≡ 0 = omega (arith, h) in ap (λ n. nexts_from t n kind) left ∙ none
    where
      none : nexts_from t 0 kind ≡ Some []
      none = refl

  pub nexts_none : kind < count → get t (next_key kind) ≡ None → nexts_from t (count - kind) kind ≡ None
  nexts_none h is = next_step h ∙ ap (λ o. read_behind (next_there o) (nexts_from t (count - (kind + 1)) (kind + 1))) is

  pub nexts_some : (bytes : List ℕ) (o : Option ℕ) → kind < count → get t (next_key kind) ≡ Some bytes → next_in bytes ≡ o
      → nexts_from t (count - kind) kind ≡ read_behind o (nexts_from t (count - (kind + 1)) (kind + 1))
  nexts_some bytes o h is read = next_step h ∙ ap (λ x. read_behind (next_there x) (nexts_from t (count - (kind + 1)) (kind + 1))) is ∙ ap (λ x. read_behind x (nexts_from t (count - (kind + 1)) (kind + 1))) read

-- ---- numbers of names

-- each name from a place on has its number
abbrev pub stand_from : Trees → NameKind → List (List ℕ) → ℕ → Bool
stand_from ts list names number = list_all (λ entry. is_written (get (tree_at ts NUMBERS) (number_key list entry.1)) (u32 entry.0)) (numbered number (drop number names))

-- What was found of a list's numbers: the view is as it was, and what is to be tested from there on decides.
pub record Numbering {View : Type 0} (tells : View → Bool) (trees : View → Trees) (commit : View → ℕ) (refs : View → List GName) (faults : View → ℕ)
    (list : NameKind) (names : List (List ℕ)) (old now : View) (number : ℕ) : Type 0 where
  pub steady : Steady tells trees commit refs faults old now
  pub stand : IsTrue (tells old) → IsTrue (are_there (trees old)) → stand_from (trees old) list names 0 ≡ stand_from (trees old) list names number
