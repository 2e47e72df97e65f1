-- A list that was moved about into an order is the list sorted by it.
use Rattle.std.proofs.Common.{◌≡◌, ◌∙◌, ℕ, suc, ◌+◌, ◌<◌, Bool, true, false, cond, T, List, [], ◌∷◌, map, length, get_or, Some, None, Option, refl, sym, ap, subst, arith}
use Rattle.std.specs.Prelude.{not, ◌&&◌}
use Rattle.std.specs.List.{AllByRecursion, list_all, sum_by}
use Rattle.std.specs.List.Sorted.{IsPermutation, IsSortedBy}
use Rattle.std.specs.declared.cmp.Ordering.{Ordering}
use Rattle.std.specs.declared.cmp.Ordering.TheVariants.{Less, Equal, Greater}
use Rattle.std.specs.Ordering.{is_eq, is_gt, is_lt, ordering_reverse, ordering_then, eq_by_cmp, flip_args}
use Rattle.std.specs.Cmp.{IsTotalOrder, alike_right, tied_itself, on_total, then_total, back_total}
use Rattle.std.specs.FinMap.{IsAntisymmetric, get}
use Rattle.std.proofs.lemmas.Bool.{false≢true}
use Rattle.std.proofs.lemmas.Cmp.{upto, nat_list_cmp_total}
use Rattle.std.proofs.lemmas.List.{get_or-map, length-map}
use Rattle.std.proofs.lemmas.List.Elements.{All-from_recursion, recursion_from_All}
use Rattle.std.proofs.lemmas.List.Sorted.{IsPermutation-map, All-permutation, sum_by-IsPermutation}
use Rattle.std.proofs.lemmas.List.Sums.{sum_by-cons}
use Rattle.xod_base.specs.declared.query.Direction.{Direction}
use Rattle.xod_base.specs.declared.query.Direction.TheVariants.{Up, Down}
use Rattle.xod_base.specs.declared.value.EntityId.{EntityId}
use Rattle.xod_base.specs.Evaluation.{key_at, key_cmp, place_by, place_id, sort_cmp, sorted_by}
use Rattle.xod_base.specs.Rows.{RowsValue, id_cmp}
use Rattle.xod_base.specs.Values.{bytes_cmp}
use Rattle.xod_forms.specs.declared.order.Ranked.{Ranked}
use Rattle.xod_forms.specs.Ranks.{rank_cmp, rank_of}
use Rattle.xod_sets.proofs.CallerLemmas.{id_total, id_same}

both : (a b : Bool) → a ≡ true → b ≡ true → (a && b) ≡ true
both a b p q = λ i. p i && q i

two : (a b : Bool) → (a && b) ≡ true → (a ≡ true) × (b ≡ true)
two true b h = (refl, h)
two false b h = absurd (false≢true h)

untrue : (b : Bool) → not b ≡ true → b ≡ false
untrue true h = absurd (false≢true h)
untrue false h = refl

both_equal : (a b : Ordering) → ordering_then a b ≡ Equal → (a ≡ Equal) × (b ≡ Equal)
both_equal Less b e = absurd (subst (λ r. T (is_eq r)) (sym e) tt)
both_equal Equal b e = (refl, e)
both_equal Greater b e = absurd (subst (λ r. T (is_eq r)) (sym e) tt)

map-map_same : {A B : Type 0} (f : A → B) (g : B → A) → ((x : A) → g (f x) ≡ x) → (xs : List A) → map g (map f xs) ≡ xs
map-map_same f g back [] = refl
map-map_same f g back (x ∷ xs) = λ i. back x i ∷ map-map_same f g back xs i

reversed : (o : Ordering) → is_gt (ordering_reverse o) ≡ is_lt o
reversed Less = refl
reversed Equal = refl
reversed Greater = refl

module _ {cmp : EntityId → EntityId → Ordering} (o : IsTotalOrder cmp) (same : IsAntisymmetric cmp) where
  -- an id is not behind any of some others
  abbrev front : EntityId → List EntityId → Bool
  front x ys = list_all (λ y. not (is_gt (cmp x y))) ys

  abbrev up : List EntityId → Bool
  up [] = true
  up (x ∷ xs) = front x xs && up xs

  front_lower : (x y : EntityId) (zs : List EntityId) → is_gt (cmp x y) ≡ false → front y zs ≡ true → front x zs ≡ true
  front_lower x y [] le h = refl
  front_lower x y (z ∷ zs) le h =
      let t = two (not (is_gt (cmp y z))) (front y zs) h in
      both _ _ (ap not (upto o x y z le (untrue (is_gt (cmp y z)) t.0))) (front_lower x y zs le t.1)

  not_behind : (x y : EntityId) (r : Ordering) → cmp x y ≡ r → is_gt (cmp y x) ≡ is_lt r
  not_behind x y r e = ap is_gt (o.antisymm y x) ∙ reversed (cmp x y) ∙ ap is_lt e

  front_place : (x y : EntityId) (zs : List EntityId) → is_gt (cmp x y) ≡ false → front x zs ≡ true → front x (place_id cmp y zs) ≡ true
  front_place x y [] le h = both _ _ (ap not le) refl
  front_place x y (z ∷ zs) le h =
      let t = two (not (is_gt (cmp x z))) (front x zs) h in
      elim (cmp y z) as (λ r. front x (place_by r y z zs (place_id cmp y zs)) ≡ true) [
        | Less ↦ both _ _ (ap not le) h
        | Equal ↦ both _ _ (ap not le) h
        | Greater ↦ both _ _ t.0 (front_place x y zs le t.1)
      ]

  up-place : (x : EntityId) (ys : List EntityId) → up ys ≡ true → up (place_id cmp x ys) ≡ true
  up-place x [] h = refl
  up-place x (y ∷ ys) h =
      let t = two (front y ys) (up ys) h in
      elim (cmp x y) as (λ r. cmp x y ≡ r → up (place_by r x y ys (place_id cmp x ys)) ≡ true) [
        | Less ↦ λ e. both _ _ (both _ _ (ap (λ r. not (is_gt r)) e) (front_lower x y ys (ap is_gt e) t.0)) h
        | Equal ↦ λ e. both _ _ (both _ _ (ap (λ r. not (is_gt r)) e) (front_lower x y ys (ap is_gt e) t.0)) h
        | Greater ↦ λ e. both _ _ (front_place y x ys (not_behind x y Greater e) t.0) (up-place x ys t.1)
      ] refl

  up-sorted_by : (xs : List EntityId) → up (sorted_by cmp xs) ≡ true
  up-sorted_by [] = refl
  up-sorted_by (x ∷ xs) = up-place x (sorted_by cmp xs) (up-sorted_by xs)

  up-sorted : (xs : List EntityId) → IsSortedBy (λ a b. is_lt (cmp a b)) xs → up xs ≡ true
  up-sorted [] h = refl
  up-sorted (x ∷ []) h = refl
  up-sorted (x ∷ y ∷ more) h =
      let le : is_gt (cmp x y) ≡ false = not_behind y x (cmp y x) refl ∙ h 0 x (omega arith) (omega arith) in
      let rest = up-sorted (y ∷ more) (λ k d low lt.
      let next : suc (k + 1) ≡ suc k + 1 = omega arith in
      ap (λ n. is_lt (cmp (get_or (x ∷ y ∷ more) n d) (get_or (y ∷ more) k d))) next ∙ h (suc k) d (omega arith) (omega arith)) in
      both _ _ (both _ _ (ap not le) (front_lower x y more le (two (front y more) (up more) rest).0)) rest

  -- how often an id stands in a list
  abbrev one : EntityId → EntityId → ℕ
  one q x = cond (eq_by_cmp cmp q x) 1 0

  abbrev count : EntityId → List EntityId → ℕ
  count q xs = sum_by (one q) xs

  swapped : (a b n : ℕ) → a + (b + n) ≡ b + (a + n)
  swapped a b n = omega arith

  count-place : (q x : EntityId) (ys : List EntityId) → count q (place_id cmp x ys) ≡ one q x + count q ys
  count-place q x [] = sum_by-cons (one q) x []
  count-place q x (y ∷ ys) =
      elim (cmp x y) as (λ r. count q (place_by r x y ys (place_id cmp x ys)) ≡ one q x + count q (y ∷ ys)) [
        | Less ↦ sum_by-cons (one q) x (y ∷ ys)
        | Equal ↦ sum_by-cons (one q) x (y ∷ ys)
        | Greater ↦ sum_by-cons (one q) y (place_id cmp x ys) ∙ ap (λ n. one q y + n) (count-place q x ys) ∙ swapped (one q y) (one q x) (count q ys) ∙ ap (λ n. one q x + n) (sym (sum_by-cons (one q) y ys))
      ]

  count-sorted_by : (q : EntityId) (xs : List EntityId) → count q (sorted_by cmp xs) ≡ count q xs
  count-sorted_by q [] = refl
  count-sorted_by q (x ∷ xs) = count-place q x (sorted_by cmp xs) ∙ ap (λ n. one q x + n) (count-sorted_by q xs) ∙ sym (sum_by-cons (one q) x xs)

  below : (x y z : EntityId) → cmp x y ≡ Less → is_gt (cmp y z) ≡ false → one x z ≡ 0
  below x y z lt le =
      elim (cmp y z) as (λ r. cmp y z ≡ r → is_gt r ≡ false → one x z ≡ 0) [
        | Less ↦ λ e h. ap (λ r. cond (is_eq r) 1 0) (o.trans x y z lt e)
        | Equal ↦ λ e h. ap (λ r. cond (is_eq r) 1 0) (sym (alike_right o y z x e) ∙ lt)
        | Greater ↦ λ e h. absurd (false≢true (sym h))
      ] refl le

  none_below : (x y : EntityId) (zs : List EntityId) → cmp x y ≡ Less → front y zs ≡ true → count x zs ≡ 0
  none_below x y [] lt h = refl
  none_below x y (z ∷ zs) lt h =
      let t = two (not (is_gt (cmp y z))) (front y zs) h in
      sum_by-cons (one x) z zs ∙ (λ i. below x y z lt (untrue (is_gt (cmp y z)) t.0) i + none_below x y zs lt t.1 i)

  absent : (x y : EntityId) (ys : List EntityId) → cmp x y ≡ Less → front y ys ≡ true → count x (y ∷ ys) ≡ 0
  absent x y ys lt h = sum_by-cons (one x) y ys ∙ (λ i. cond (is_eq (lt i)) 1 0 + none_below x y ys lt h i)

  present : (x : EntityId) (xs : List EntityId) → count x (x ∷ xs) ≡ 1 + count x xs
  present x xs = sum_by-cons (one x) x xs ∙ ap (λ r. cond (is_eq r) 1 0 + count x xs) (tied_itself o x)

  apart : {A : Type 0} (a b n : ℕ) → a ≡ 0 → b ≡ 1 + n → a ≡ b → A
  apart a b n p q e = absurd (omega arith)

  same_up : (xs ys : List EntityId) → up xs ≡ true → up ys ≡ true → ((q : EntityId) → count q xs ≡ count q ys) → xs ≡ ys
  same_up [] [] g h e = refl
  same_up [] (y ∷ ys) g h e = apart 0 (count y (y ∷ ys)) (count y ys) refl (present y ys) (e y)
  same_up (x ∷ xs) [] g h e = apart 0 (count x (x ∷ xs)) (count x xs) refl (present x xs) (sym (e x))
  same_up (x ∷ xs) (y ∷ ys) g h e =
      let s = two (front x xs) (up xs) g in
      let t = two (front y ys) (up ys) h in
      elim (cmp x y) as (λ r. cmp x y ≡ r → x ∷ xs ≡ y ∷ ys) [
        | Less ↦ λ is. apart (count x (y ∷ ys)) (count x (x ∷ xs)) (count x xs) (absent x y ys is t.0) (present x xs) (sym (e x))
        | Greater ↦ λ is. apart (count y (x ∷ xs)) (count y (y ∷ ys)) (count y ys) (absent y x xs (o.antisymm y x ∙ ap ordering_reverse is) s.0) (present y ys) (e y)
        | Equal ↦ λ is.
            let one_is = same x y is in
            let rest = same_up xs ys s.1 t.1 (λ q. tails (one q x) (count q xs) (count q ys) (sym (sum_by-cons (one q) x xs) ∙ e q ∙ sum_by-cons (one q) y ys ∙ ap (λ z. one q z + count q ys) (sym one_is))) in
            λ i. one_is i ∷ rest i
      ] refl
    where
      tails : (a m n : ℕ) → a + m ≡ a + n → m ≡ n
      tails a m n h = omega arith

  pub sorted_is : (xs ys : List EntityId) → IsPermutation xs ys → IsSortedBy (λ a b. is_lt (cmp a b)) ys → ys ≡ sorted_by cmp xs
  sorted_is xs ys moved sorted = same_up ys (sorted_by cmp xs) (up-sorted ys sorted) (up-sorted_by xs) (λ q. sum_by-IsPermutation (one q) xs ys moved ∙ sym (count-sorted_by q xs))

-- ---- the order of keys
key_list : Direction → Option (List ℕ) → List ℕ
key_list Up None = 1 ∷ []
key_list Down None = []
key_list direction (Some key) = 0 ∷ key

abbrev bytes_in : Direction → List ℕ → List ℕ → Ordering
bytes_in Up = bytes_cmp
bytes_in Down = flip_args bytes_cmp

bytes_in_total : (direction : Direction) → IsTotalOrder (bytes_in direction)
bytes_in_total Up = nat_list_cmp_total
bytes_in_total Down = back_total nat_list_cmp_total

key_listed : (direction : Direction) (a b : Option (List ℕ)) → bytes_in direction (key_list direction a) (key_list direction b) ≡ key_cmp direction a b
unfolding key_list
key_listed Up None None = refl
key_listed Up None (Some b) = refl
key_listed Up (Some a) None = refl
key_listed Up (Some a) (Some b) = refl
key_listed Down None None = refl
key_listed Down None (Some b) = refl
key_listed Down (Some a) None = refl
key_listed Down (Some a) (Some b) = refl

key_total : (direction : Direction) → IsTotalOrder (key_cmp direction)
key_total direction = subst IsTotalOrder (λ i a b. key_listed direction a b i) (on_total (key_list direction) (bytes_in_total direction))

pub rank_total : (direction : Direction) → IsTotalOrder (rank_cmp direction)
rank_total direction = then_total (on_total (λ r. r.key) (key_total direction)) (on_total (λ r. r.id) id_total)

module _ (rows : RowsValue) (prop : List ℕ) (direction : Direction) where
  sort_total : IsTotalOrder (sort_cmp rows prop direction)
  sort_total = then_total (on_total (λ id. key_at (get rows.values (id, prop))) (key_total direction)) id_total

  sort_same : IsAntisymmetric (sort_cmp rows prop direction)
  sort_same a b e = id_same a b (both_equal (key_cmp direction (key_at (get rows.values (a, prop))) (key_at (get rows.values (b, prop)))) (id_cmp a b) e).1

  abbrev rank : EntityId → Ranked
  rank = rank_of rows prop

  abbrev IsRank : Ranked → Type 0
  IsRank r = rank r.id ≡ r

  all_ranks : (ids : List EntityId) → AllByRecursion IsRank (map rank ids)
  all_ranks [] = tt
  all_ranks (id ∷ ids) = (refl, all_ranks ids)

  ranks_back : (ranked : List Ranked) → AllByRecursion IsRank ranked → map rank (map (λ r. r.id) ranked) ≡ ranked
  ranks_back [] h = refl
  ranks_back (r ∷ ranked) h = λ i. h.0 i ∷ ranks_back ranked h.1 i

  ids_sorted : (ids : List EntityId) → IsSortedBy (λ a b. is_lt (rank_cmp direction a b)) (map rank ids) → IsSortedBy (λ a b. is_lt (sort_cmp rows prop direction a b)) ids
  ids_sorted ids h k d low lt =
      let here : k < length ids = omega arith in
      (λ i. is_lt (rank_cmp direction (sym (get_or-map rank ids (k + 1) d (rank d) lt) i) (sym (get_or-map rank ids k d (rank d) here) i)))
      ∙ h k (rank d) low (omega (arith, length-map ids rank, lt))

  -- ids that were sorted with their keys are the ids sorted
  pub ranks_sorted : (ids : List EntityId) (ranked : List Ranked) → IsPermutation (map rank ids) ranked → IsSortedBy (λ a b. is_lt (rank_cmp direction a b)) ranked → map (λ r. r.id) ranked ≡ sorted_by (sort_cmp rows prop direction) ids
  ranks_sorted ids ranked moved sorted =
      let back = ranks_back ranked (recursion_from_All IsRank ranked (All-permutation IsRank (map rank ids) ranked moved (All-from_recursion IsRank (map rank ids) (all_ranks ids)))) in
      sorted_is sort_total sort_same ids (map (λ r. r.id) ranked)
      (subst (λ xs. IsPermutation xs (map (λ r. r.id) ranked)) (map-map_same rank (λ r. r.id) (λ id. refl) ids) (IsPermutation-map (λ r. r.id) (map rank ids) ranked moved))
      (ids_sorted (map (λ r. r.id) ranked) (subst (IsSortedBy (λ a b. is_lt (rank_cmp direction a b))) (sym back) sorted))
