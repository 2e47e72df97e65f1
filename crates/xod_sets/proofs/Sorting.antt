-- Numbers that rise, and numbers that are made to.
use Rattle.std.proofs.Common.{◌≡◌, ℕ, ◌+◌, ◌<◌, true, false, cond, ◌||◌, List, [], ◌∷◌, length, get_or, drop, refl, sym, ap, ◌∙◌, IsTrue, eqb, nat_cmp, Less}
use Rattle.std.specs.List.{AllByRecursion, dedup, dedup_from}
use Rattle.std.specs.List.Sorted.{IsPermutation, IsSorted, IsStrictlySortedBy}
use Rattle.std.specs.Ordering.{is_lt, eq_by_cmp}
use Rattle.std.specs.Cmp.{nat_cmp_is, nat_cmp_total}
use Rattle.std.proofs.lemmas.List.{drop_more}
use Rattle.std.proofs.lemmas.List.Kept.{IsStrictlySortedBy-dedup}
use Rattle.std.proofs.lemmas.List.Sorted.{IsPermutation-map, list_any-IsPermutation}
use Rattle.std.proofs.lemmas.Bool.Decides.{nat_tests}
use Rattle.std.proofs.Common.{arith}
use Rattle.xod_base.specs.Ids.{id_of_number}
use Rattle.xod_base.specs.Rows.{same_id}
use Rattle.xod_base.specs.Evaluation.{has_id, rising}
use Rattle.xod_sets.specs.Rising.{is_before, rises}
use Rattle.xod_sets.proofs.Numbers.{cmp_of_numbers}
use Rattle.xod_sets.proofs.Passes.{ids}
use Rattle.xod_sets.proofs.Rising.{Alike, both_true, has_rising, rises_rising, same_rising}
use Rattle.xod_sets.proofs.Steps.{or_twice, rises_next}

-- a number below the next one is no matter
pub number_next : (last : ℕ) (rest : List ℕ) (i : ℕ) → i < length rest → last < get_or rest i 0
    → rises (ids (last ∷ drop i rest)) ≡ rises (ids (get_or rest i 0 ∷ drop (i + 1) rest))
number_next last rest i lt below = ap (λ l. rises (ids (last ∷ l))) (drop_more rest i 0 lt)
    ∙ rises_next (id_of_number last) (id_of_number (get_or rest i 0)) (ids (drop (i + 1) rest)) (cmp_of_numbers last (get_or rest i 0) ∙ sym (nat_cmp_is _ _ Less below))

-- ---- sorted, and each once

before_ids : (n : ℕ) (ns : List ℕ) → AllByRecursion (λ m. nat_cmp n m ≡ Less) ns → IsTrue (is_before (id_of_number n) (ids ns))
before_ids n [] h = refl
before_ids n (m ∷ ms) h = both_true _ _ (ap is_lt (cmp_of_numbers n m ∙ h.0)) (before_ids n ms h.1)

rises_strictly : (ns : List ℕ) → IsStrictlySortedBy nat_cmp ns → IsTrue (rises (ids ns))
unfolding IsStrictlySortedBy
rises_strictly [] h = refl
rises_strictly (n ∷ ns) h = both_true _ _ (before_ids n ns h.0) (rises_strictly ns h.1)

same_number : (n m : ℕ) → eqb n m ≡ true → n ≡ m
same_number n m e = grind (arith, nat_tests)

has_dedup : (n : ℕ) (ns : List ℕ) → Alike (ids (dedup_from eqb n ns)) (ids (n ∷ ns))
has_dedup n [] q = refl
has_dedup n (m ∷ ms) q = elim (eqb m n) as (λ b. eqb m n ≡ b → has_id (ids (cond b (dedup_from eqb n ms) (n ∷ dedup_from eqb m ms))) q ≡ has_id (ids (n ∷ m ∷ ms)) q) [
  | true ↦ λ e. has_dedup n ms q ∙ sym (or_twice (same_id q (id_of_number n)) (has_id (ids ms) q))
      ∙ ap (λ k. same_id q (id_of_number n) || (same_id q (id_of_number k) || has_id (ids ms) q)) (sym (same_number m n e))
  | false ↦ λ e. ap (λ b. same_id q (id_of_number n) || b) (has_dedup m ms q)
] refl

has_deduped : (ns : List ℕ) → Alike (ids (dedup eqb ns)) (ids ns)
has_deduped [] q = refl
has_deduped (n ∷ ns) q = has_dedup n ns q

tied_numbers : (n m : ℕ) → eqb n m ≡ eq_by_cmp nat_cmp n m
tied_numbers n m = grind (arith, nat_tests)

pub sorted_once : (ns sorted once : List ℕ) → IsPermutation ns sorted → IsSorted nat_cmp sorted → once ≡ dedup eqb sorted → ids once ≡ rising (ids ns)
sorted_once ns sorted once moved up is = ap ids is ∙ same_rising (ids (dedup eqb sorted)) (rising (ids ns))
    (rises_strictly (dedup eqb sorted) (IsStrictlySortedBy-dedup nat_cmp_total tied_numbers sorted up)) (rises_rising (ids ns))
    (λ q. has_deduped sorted q ∙ sym (list_any-IsPermutation (same_id q) (ids ns) (ids sorted) (IsPermutation-map id_of_number ns sorted moved)) ∙ sym (has_rising (ids ns) q))
