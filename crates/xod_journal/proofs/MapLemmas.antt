-- Maps by their entries, and maps from which entries were taken.
use Rattle.std.proofs.Common.{◌≡◌, Bool, true, false, cond, T, List, [], length, None, refl, sym, ap, subst, ◌∙◌}
use Rattle.std.specs.Prelude.{not}
use Rattle.std.specs.declared.cmp.Ordering.{Ordering}
use Rattle.std.specs.Ordering.{eq_by_cmp, is_eq}
use Rattle.std.specs.Cmp.{IsTotalOrder, alike_right, eq_by_cmp_equiv}
use Rattle.std.specs.FinMap.{FinMap, IsAntisymmetric, empty, entries, find, from_sorted, is_sorted, entries_sorted, same_entries_map, empty_of_len, len-entries, entries-from_sorted, get-from_sorted, get-remove, same_map}
use Rattle.std.specs.FinMap as maps
use Rattle.std.specs.FinMap.Entries.{where_key, is_sorted-where_key, find-where_key}

pub holds : (b : Bool) → b ≡ true → T b
holds b h = subst T (sym h) tt

pub is_true : (b : Bool) → T b → b ≡ true
is_true true h = refl
is_true false h = absurd h

-- ---- maps
module _ {K X : Type 0} (R : K → K → Ordering) where
  pub from_sorted-entries : (m : FinMap R X) → from_sorted (entries m) ≡ m
  from_sorted-entries m = same_entries_map _ m (entries-from_sorted R (entries m) (entries_sorted m))

  pub from_sorted-none : from_sorted {X = X} {R = R} [] ≡ empty
  from_sorted-none = empty_of_len (from_sorted []) (len-entries (from_sorted {R = R} []) ∙ ap length (entries-from_sorted R [] tt))

  pub entries-empty : entries (empty {X = X} {R = R}) ≡ []
  entries-empty = sym (ap entries from_sorted-none) ∙ entries-from_sorted R [] tt

-- the entries without that of a key
abbrev pub without : {K X : Type 0} → (K → K → Ordering) → K → List (K × X) → List (K × X)
without R k es = where_key R (λ x. not (eq_by_cmp R k x)) es

turned : {A : Type 0} (b : Bool) (x y : A) → cond (not b) x y ≡ cond b y x
turned true x y = refl
turned false x y = refl

module _ {K X : Type 0} {R : K → K → Ordering} (o : IsTotalOrder R) where
  find-without : (k q : K) (es : List (K × X)) → find R q (without R k es) ≡ cond (eq_by_cmp R q k) None (find R q es)
  find-without k q es = find-where_key R (λ x. not (eq_by_cmp R k x)) q (λ x t. ap (λ r. not (is_eq r)) (sym (alike_right o q x k t))) es
      ∙ turned (eq_by_cmp R k q) (find R q es) None
      ∙ ap (λ b. cond b None (find R q es)) ((eq_by_cmp_equiv o).symm k q)

  pub from_sorted-without : IsAntisymmetric R → (es : List (K × X)) (k : K) → is_sorted R es ≡ true → from_sorted {R = R} (without R k es) ≡ maps.remove (from_sorted es) k
  from_sorted-without same es k h = same_map o same _ _ (λ q. get-from_sorted R (without R k es) q (is_sorted-where_key R _ es (holds _ h))
      ∙ find-without k q es
      ∙ sym (get-remove o (from_sorted es) k q ∙ ap (cond (eq_by_cmp R q k) None) (get-from_sorted R es q (holds _ h))))

  pub entries-remove : IsAntisymmetric R → (m : FinMap R X) (k : K) → entries (maps.remove m k) ≡ without R k (entries m)
  entries-remove same m k =
      let sorted = is_true _ (entries_sorted m) in
      ap entries (sym (from_sorted-without same (entries m) k sorted ∙ ap (λ n. maps.remove n k) (from_sorted-entries R m)))
      ∙ entries-from_sorted R (without R k (entries m)) (is_sorted-where_key R _ (entries m) (entries_sorted m))
