-- What the audit answers, from what it looked up.
use base.Fml.{GName}
use Rattle.std.proofs.Common.{◌≡◌, ℕ, Bool, true, false, cond, ◌&&◌, List, Option, Some, None, Ok, Err, refl, sym, ap, ◌∙◌, true≢false}
use Rattle.std.specs.Prelude.{Result, IfOk, length, is_some, ◌==◌}
use Rattle.std.specs.List.{list_all}
use Rattle.std.specs.FinMap.{entries, len, len-entries}
use Rattle.xod_base.specs.declared.causes.ReadError.{ReadError}
use Rattle.xod_base.specs.declared.answer.NameKind.TheVariants.{Kinds, Props, Links}
use Rattle.xod_base.specs.Rows.{is_name}
use Rattle.xod_base.specs.Views.{Entry, Tree, Trees}
use Rattle.xod_tables.specs.Reading.{tree_at}
use Rattle.xod_tables.specs.declared.trees.TheConstants.{NAMES, NUMBERS, NEXT, ENTITIES, PROPERTIES, INDEX, LINKS, BACK}
use Rattle.xod_audit.specs.declared.trees.Lists.{Lists}
use Rattle.xod_audit.specs.Audits.{Audits, kinds_of}
use Rattle.xod_audit.specs.Checks.{counted, lists_of, lists_in, fit_to, kinds_audited}
use Rattle.xod_audit.specs.Looks.{Looks}
use Rattle.xod_audit.specs.Tests.{holds, names_listed, name_count, numbers_stand, nexts_listed, entities_fit, properties_fit, links_fit, trees_fit, are_there}
use Rattle.xod_audit.proofs.Told.{tests_tell, none_unaudited}

-- ---- entries that were counted
counted_some : (test : Entry → Bool) (t : Tree) (o : Option ℕ) (n : ℕ) → o ≡ counted test (entries t) → o ≡ Some n → (list_all test (entries t) ≡ true) × (n ≡ len t)
counted_some test t o n is some = at (list_all test (entries t)) (sym some ∙ is)
  where
    at : (b : Bool) → Some n ≡ cond b (Some (length (entries t))) None → (b ≡ true) × (n ≡ len t)
    at true e = let same : n ≡ length (entries t) = cc e in (refl, same ∙ sym (len-entries t))
    at false e = absurd (true≢false (ap is_some e))

-- and another tree has as many
pub counted_both : (test : Entry → Bool) (t other : Tree) (o : Option ℕ) (n : ℕ) → o ≡ counted test (entries t) → o ≡ Some n → (len other == n) ≡ (list_all test (entries t) && (len other == len t))
counted_both test t other o n is some =
    let known = counted_some test t o n is some in
    ap (λ m. len other == m) known.1 ∙ ap (λ b. b && (len other == len t)) (sym known.0)

-- ---- the whole
rearranged : (a b c n s e p l : Bool) (k d f : List (List ℕ)) (fit : Lists → Bool) → fit (record { kinds = k; props = d; links = f }) ≡ (n && s && e && p && l)
    → (trees : Trees) → ((lists : Lists) → fit_to trees lists ≡ fit lists)
    → kinds_audited trees (lists_of (cond a (Some k) None) (cond b (Some d) None) (cond c (Some f) None)) ≡ cond ((a && b && c && n) && s && e && p && l) (Some k) None
rearranged false b c n s e p l k d f fit is trees same = refl
rearranged true false c n s e p l k d f fit is trees same = refl
rearranged true true false n s e p l k d f fit is trees same = refl
rearranged true true true n s e p l k d f fit is trees same = ap (λ x. cond x (Some k) None) (same (record { kinds = k; props = d; links = f }) ∙ is)

audited_is : (trees : Trees) → are_there trees ≡ true → kinds_audited trees (lists_in (tree_at trees NAMES)) ≡ kinds_of trees
audited_is trees there =
    let names = tree_at trees NAMES in
    let numbers = tree_at trees NUMBERS in
    let k = names_listed Kinds names in
    let d = names_listed Props names in
    let f = names_listed Links names in
    rearranged (list_all is_name k) (list_all is_name d) (list_all is_name f) (len names == name_count names)
    (numbers_stand numbers Kinds k && numbers_stand numbers Props d && numbers_stand numbers Links f && (len numbers == name_count names))
    (holds (entities_fit (tree_at trees ENTITIES)) (nexts_listed names (tree_at trees NEXT)))
    (properties_fit (length d) (tree_at trees ENTITIES) (tree_at trees PROPERTIES) (tree_at trees INDEX))
    (links_fit (length f) (tree_at trees ENTITIES) (tree_at trees LINKS) (tree_at trees BACK))
    k d f (fit_to trees) refl trees (λ lists. refl)
    ∙ ap (λ b. cond (b && trees_fit names numbers (tree_at trees NEXT) (tree_at trees ENTITIES) (tree_at trees PROPERTIES) (tree_at trees INDEX) (tree_at trees LINKS) (tree_at trees BACK)) (Some k) None) (sym there)
    ∙ sym (tests_tell trees)

module _ {View : Type 0} {tells : View → Bool} {trees : View → Trees} {commit : View → ℕ} {refs : View → List GName} {faults : View → ℕ} where
  pub audits : (old new : View) (result : Result (Option (List (List ℕ))) ReadError) → Looks tells trees commit refs faults old new (λ ts. kinds_audited ts (lists_in (tree_at ts NAMES))) result
      → Audits (tells old) (trees old) result
  audits old new result l = record {
    names = λ told there. by result (l.value told there) (audited_is (trees old) there);
    damaged = λ told place is. none_unaudited (trees old)
        (ap (λ b. b && trees_fit (tree_at (trees old) NAMES) (tree_at (trees old) NUMBERS) (tree_at (trees old) NEXT) (tree_at (trees old) ENTITIES) (tree_at (trees old) PROPERTIES) (tree_at (trees old) INDEX) (tree_at (trees old) LINKS) (tree_at (trees old) BACK))
        (l.damaged told place is));
  }
    where
      by : (r : Result (Option (List (List ℕ))) ReadError) → IfOk r (λ found. found ≡ kinds_audited (trees old) (lists_in (tree_at (trees old) NAMES))) → kinds_audited (trees old) (lists_in (tree_at (trees old) NAMES)) ≡ kinds_of (trees old)
          → IfOk r (λ found. found ≡ kinds_of (trees old))
      by (Ok x) h e = h ∙ e
      by (Err x) h e = h
