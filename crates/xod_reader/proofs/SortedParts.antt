-- Parts that were sorted by their keys are a map's entries, in the map's order.
use Rattle.std.proofs.Common.{◌≡◌, ℕ, suc, ◌+◌, ◌≤◌, Bool, true, false, cond, List, [], ◌∷◌, map, get_or, Option, Some, None, refl, sym, ap, subst, ◌∙◌, true≢false, arith}
use Rattle.std.specs.Prelude.{is_some}
use Rattle.std.specs.List.{AllByRecursion, filter, sum_by}
use Rattle.std.specs.List.Sorted.{IsPermutation, IsSortedBy}
use Rattle.std.specs.declared.cmp.Ordering.{Ordering}
use Rattle.std.specs.declared.cmp.Ordering.TheVariants.{Less, Equal, Greater}
use Rattle.std.specs.Ordering.{eq_by_cmp, is_eq, is_gt, is_lt, ordering_reverse}
use Rattle.std.specs.Cmp.{IsTotalOrder, tied_itself}
use Rattle.std.specs.FinMap.{FinMap, IsAntisymmetric, entries, entries_sorted, find, get, get-entries}
use Rattle.std.specs.FinMap.Entries.{find-where_key, is_sorted-where_key, same_entries}
use Rattle.std.proofs.lemmas.Cmp.{upto}
use Rattle.std.proofs.lemmas.List.Elements.{All-from_recursion, recursion_from_All}
use Rattle.std.proofs.lemmas.List.Sorted.{All-permutation, sum_by-IsPermutation}
use Rattle.std.proofs.lemmas.List.Sums.{sum_by-cons}
use Rattle.xod_carry.proofs.CallerLemmas.{each, tied_is}
use Rattle.xod_tables.proofs.CallerLemmas.{not_none}
use Rattle.xod_readings.proofs.Ranging.{In, Rises, each_map, found_in, in_each, in_found, rises_map, rises_sorted}

reversed : (r : Ordering) → is_gt (ordering_reverse r) ≡ is_lt r
reversed Less = refl
reversed Equal = refl
reversed Greater = refl

each_permuted : {A : Type 0} (P : A → Type 0) (xs ys : List A) → IsPermutation xs ys → AllByRecursion P xs → AllByRecursion P ys
each_permuted P xs ys moved h = recursion_from_All P ys (All-permutation P xs ys moved (All-from_recursion P xs h))

map_back : {A B : Type 0} (f : A → B) (back : B → A) (xs : List A) → AllByRecursion (λ x. back (f x) ≡ x) xs → map back (map f xs) ≡ xs
map_back f back [] h = refl
map_back f back (x ∷ xs) h = λ i. h.0 i ∷ map_back f back xs h.1 i

module _ {K X A : Type 0} {R : K → K → Ordering} (o : IsTotalOrder R) (same : IsAntisymmetric R) (key : A → K) (value : A → X) where
  -- a part as an entry
  abbrev pub entry_of : A → K × X
  entry_of a = (key a, value a)

  -- the order of parts by their keys
  abbrev pub order : A → A → Ordering
  order a b = R (key a) (key b)

  -- ---- how often a key stands
  abbrev one : K → A → ℕ
  one q a = cond (eq_by_cmp R q (key a)) 1 0

  abbrev pub count : K → List A → ℕ
  count q xs = sum_by (one q) xs

  next : (q : K) (x : A) (xs : List A) → count q (x ∷ xs) ≡ one q x + count q xs
  next q x xs = sum_by-cons (one q) x xs

  none_counted : (q : K) (xs : List A) → find R q (map entry_of xs) ≡ None → count q xs ≡ 0
  none_counted q [] h = refl
  none_counted q (x ∷ xs) h = next q x xs ∙ at (eq_by_cmp R q (key x)) h (none_counted q xs)
    where
      at : (b : Bool) → cond b (Some (value x)) (find R q (map entry_of xs)) ≡ None → (find R q (map entry_of xs) ≡ None → count q xs ≡ 0)
          → cond b 1 0 + count q xs ≡ 0
      at true none later = absurd (not_none (value x) none)
      at false none later = let zero_is = later none in omega (arith, zero_is)

  counted_none : (q : K) (xs : List A) → count q xs ≡ 0 → find R q (map entry_of xs) ≡ None
  counted_none q [] h = refl
  counted_none q (x ∷ xs) h = at (eq_by_cmp R q (key x)) (sym (next q x xs) ∙ h) (counted_none q xs)
    where
      at : (b : Bool) → cond b 1 0 + count q xs ≡ 0 → (count q xs ≡ 0 → find R q (map entry_of xs) ≡ None)
          → cond b (Some (value x)) (find R q (map entry_of xs)) ≡ None
      at true zero_is later = absurd (omega (arith, zero_is))
      at false zero_is later = later (omega (arith, zero_is))

  -- ---- images of a rising list, no two of which have one key
  module _ {P : Type 0} (f : P → A) (S : P → P → Ordering) (Fits : P → Type 0) (apart : (x y : P) → Fits x → Fits y → S x y ≡ Less → key (f x) ≡ key (f y) → ⊥) where
    none_later : (x : P) → Fits x → (xs : List P) → AllByRecursion Fits xs → AllByRecursion (λ y. S x y ≡ Less) xs → (q : K) → eq_by_cmp R q (key (f x)) ≡ true
        → count q (map f xs) ≡ 0
    none_later x g [] h s q t = refl
    none_later x g (y ∷ ys) h s q t = next q (f y) (map f ys) ∙ at (eq_by_cmp R q (key (f y))) refl (none_later x g ys h.1 s.1 q t)
      where
        at : (b : Bool) → eq_by_cmp R q (key (f y)) ≡ b → count q (map f ys) ≡ 0 → cond b 1 0 + count q (map f ys) ≡ 0
        at true u later = absurd (apart x y g h.0 s.0 (sym (tied_is same q (key (f x)) t) ∙ tied_is same q (key (f y)) u))
        at false u later = omega (arith, later)

    pub once : (xs : List P) → AllByRecursion Fits xs → Rises S xs → (q : K) → count q (map f xs) ≤ 1
    once [] h s q = omega arith
    once (x ∷ xs) h s q = subst (λ n. n ≤ 1) (sym (next q (f x) (map f xs))) (at (eq_by_cmp R q (key (f x))) refl (once xs h.1 s.1 q))
      where
        at : (b : Bool) → eq_by_cmp R q (key (f x)) ≡ b → count q (map f xs) ≤ 1 → cond b 1 0 + count q (map f xs) ≤ 1
        at true t few = let later = none_later x h.0 xs h.1 s.0 q t in omega (arith, later)
        at false t few = omega (arith, few)

  -- ---- a sorted list in which each key stands once rises
  abbrev front : A → List A → Type 0
  front x ys = AllByRecursion (λ y. is_gt (order x y) ≡ false) ys

  abbrev Up : List A → Type 0
  Up [] = Unit {0}
  Up (x ∷ xs) = front x xs × Up xs

  lower : (x y : A) (zs : List A) → is_gt (order x y) ≡ false → front y zs → front x zs
  lower x y [] le h = tt
  lower x y (z ∷ zs) le h = (upto o (key x) (key y) (key z) le h.0, lower x y zs le h.1)

  up_sorted : (xs : List A) → IsSortedBy (λ a b. is_lt (order a b)) xs → Up xs
  up_sorted [] h = tt
  up_sorted (x ∷ []) h = (tt, tt)
  up_sorted (x ∷ y ∷ more) h =
      let le : is_gt (order x y) ≡ false = ap is_gt (o.antisymm (key x) (key y)) ∙ reversed (order y x) ∙ h 0 x (omega arith) (omega arith) in
      let rest = up_sorted (y ∷ more) (λ k d low lt.
      let place : suc (k + 1) ≡ suc k + 1 = omega arith in
      ap (λ n. is_lt (order (get_or (x ∷ y ∷ more) n d) (get_or (y ∷ more) k d))) place ∙ h (suc k) d (omega arith) (omega arith)) in
      ((le, lower x y more le rest.0), rest)

  below : (x : A) (ys : List A) → front x ys → count (key x) ys ≡ 0 → AllByRecursion (λ y. order x y ≡ Less) ys
  below x [] h none = tt
  below x (y ∷ ys) h none =
      let sum = sym (next (key x) y ys) ∙ none in
      let later : count (key x) ys ≡ 0 = omega (arith, sum) in
      (less (order x y) h.0 sum, below x ys h.1 later)
    where
      less : (r : Ordering) → is_gt r ≡ false → cond (is_eq r) 1 0 + count (key x) ys ≡ 0 → r ≡ Less
      less Less le zero_is = refl
      less Equal le zero_is = absurd (omega (arith, zero_is))
      less Greater le zero_is = absurd (true≢false le)

  strict : (xs : List A) → Up xs → ((q : K) → count q xs ≤ 1) → Rises order xs
  strict [] u few = tt
  strict (x ∷ xs) u few =
      let own : one (key x) x ≡ 1 = ap (λ r. cond (is_eq r) 1 0) (tied_itself o (key x)) in
      let all = few (key x) in
      let here = next (key x) x xs in
      let none : count (key x) xs ≡ 0 = omega (arith, own, all, here) in
      (below x xs u.0 none, strict xs u.1 (λ q. let some = few q in let one_is = next q x xs in omega (arith, some, one_is)))

  -- ---- parts of a map
  module _ (m : FinMap R X) (kept : K → Bool) where
    -- a list has a part for exactly each entry with a key that is kept
    pub record HasParts (xs : List A) : Type 0 where
      pub stand : AllByRecursion (λ a. (get m (key a) ≡ Some (value a)) × (kept (key a) ≡ true)) xs
      pub met : (k : K) (v : X) → get m k ≡ Some v → kept k ≡ true → In (k, v) (map entry_of xs)
      pub few : (q : K) → count q xs ≤ 1

    module _ (xs ys : List A) (h : HasParts xs) (moved : IsPermutation xs ys) (sorted : IsSortedBy (λ a b. is_lt (order a b)) ys) where
      counted : (q : K) → count q ys ≡ count q xs
      counted q = sum_by-IsPermutation (one q) xs ys moved

      rises : Rises (λ (a b : K × X). R a.0 b.0) (map entry_of ys)
      rises = rises_map order (λ (a b : K × X). R a.0 b.0) (λ _. Unit {0}) entry_of (λ x y _ _ less. less) ys (each (λ _. tt) ys)
          (strict ys (up_sorted ys sorted) (λ q. let same_count = counted q in let few = h.few q in omega (arith, same_count, few)))

      stands : (q : K) (v : X) → find R q (map entry_of ys) ≡ Some v → (get m q ≡ Some v) × (kept q ≡ true)
      stands q v is = in_each (λ (e : K × X). (get m e.0 ≡ Some e.1) × (kept e.0 ≡ true)) (map entry_of ys) (q, v)
          (each_map (λ (e : K × X). (get m e.0 ≡ Some e.1) × (kept e.0 ≡ true)) entry_of ys (each_permuted _ xs ys moved h.stand))
          (found_in o same q v (map entry_of ys) is)

      absent : (q : K) (b : Bool) (v : Option X) → kept q ≡ b → get m q ≡ v → find R q (map entry_of ys) ≡ None → cond b v None ≡ None
      absent q false v k g none = refl
      absent q true None k g none = refl
      absent q true (Some v) k g none =
          let zero_is : count q xs ≡ 0 = sym (counted q) ∙ none_counted q ys none in
          absurd (true≢false (sym (in_found o same q v (map entry_of xs) (h.met q v g k)) ∙ ap is_some (counted_none q xs zero_is)))

      found : (q : K) (v : Option X) → find R q (map entry_of ys) ≡ v → find R q (map entry_of ys) ≡ cond (kept q) (get m q) None
      found q None is = is ∙ sym (absent q (kept q) (get m q) refl refl is)
      found q (Some v) is = let there = stands q v is in is ∙ sym (ap (λ b. cond b (get m q) None) there.1 ∙ there.0)

      sorted_entries : map entry_of ys ≡ filter (λ e. kept e.0) (entries m)
      sorted_entries = same_entries R o same (map entry_of ys) (filter (λ e. kept e.0) (entries m))
          (rises_sorted R (map entry_of ys) rises) (is_sorted-where_key R kept (entries m) (entries_sorted m))
          (λ q. found q (find R q (map entry_of ys)) refl
          ∙ sym (find-where_key R kept q (λ x t. ap kept (sym (same q x t))) (entries m) ∙ ap (λ v. cond (kept q) v None) (sym (get-entries m q))))

      -- sorted, they are the entries, each as a part
      pub sorted_parts : (back : K × X → A) → AllByRecursion (λ a. back (entry_of a) ≡ a) xs → ys ≡ map back (filter (λ e. kept e.0) (entries m))
      sorted_parts back each_back = sym (map_back entry_of back ys (each_permuted _ xs ys moved each_back)) ∙ ap (map back) sorted_entries
