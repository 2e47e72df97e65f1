-- Lists whose items rise: where an item is, and what stays in order.
use Rattle.std.proofs.Common.{◌≡◌, ◌∙◌, ℕ, zero, suc, ◌+◌, ◌<◌, ◌≤◌, Bool, true, false, cond, T, List, [], ◌∷◌, map, length, get_or, set, Some, None, Result, Ok, Err, refl, sym, ap, arith}
use Rattle.std.specs.Prelude.{not, IfOk, IfErr}
use Rattle.std.specs.List.{filter, find, insert, AllWithin}
use Rattle.std.specs.List.Sorted.{IsSortedBy, IsBinarySearchResult, IsSearchInRange}
use Rattle.std.specs.declared.cmp.Ordering.{Ordering}
use Rattle.std.specs.declared.cmp.Ordering.TheVariants.{Less, Equal, Greater}
use Rattle.std.specs.Ordering.{is_eq, is_lt, ordering_reverse, eq_by_cmp}
use Rattle.std.specs.Cmp.{alike_right, tied_back}
use Rattle.std.specs.FinMap.Entries.{by_order, below_all, is_sorted, is_sorted-put, is_sorted-where_key, put}
use Rattle.std.proofs.lemmas.List.Sorted.{searchable_from_sorted}
use Rattle.xod_base.specs.Rows.{LinkKey, link_cmp}
use Rattle.xod_model.specs.Rising.{is_at, rises, put_item, without, IsPlace, IsGap}
use Rattle.xod_model.proofs.KeyLemmas.{link_total, link_same}
use Rattle.xod_model.proofs.TestLemmas.{holds, is_true, first, second}

less : (o : Ordering) → T (is_lt o) → o ≡ Less
less Less h = refl
less Equal h = absurd h
less Greater h = absurd h

turned : (k l : LinkKey) (o : Ordering) → link_cmp k l ≡ o → link_cmp l k ≡ ordering_reverse o
turned k l o e = link_total.antisymm l k ∙ ap ordering_reverse e

-- a test of items that agrees with one of what they become
pub map-filter : {A B : Type 0} (f : A → B) (p : B → Bool) (xs : List A) → map f (filter (λ x. p (f x)) xs) ≡ filter p (map f xs)
map-filter f p [] = refl
map-filter f p (x ∷ xs) =
    elim (p (f x)) as (λ b. map f (cond b (x ∷ filter (λ y. p (f y)) xs) (filter (λ y. p (f y)) xs)) ≡ cond b (f x ∷ filter p (map f xs)) (filter p (map f xs))) [
      | true ↦ ap (λ ys. f x ∷ ys) (map-filter f p xs)
      | false ↦ map-filter f p xs
    ]

module _ {A : Type 0} (key : A → LinkKey) where
  abbrev entry : A → LinkKey × A
  entry item = (key item, item)

  -- an item is below each one behind it
  below_at : (k : LinkKey) (items : List A) (i : ℕ) (d : A) → T (below_all link_cmp k (map entry items)) → i < length items → link_cmp k (key (get_or items i d)) ≡ Less
  below_at k [] i d h lt = absurd (omega arith)
  below_at k (item ∷ more) zero d h lt = less _ (first _ _ h)
  below_at k (item ∷ more) (suc i) d h lt = below_at k more i d (second _ _ h) (omega arith)

  neighbours : (items : List A) → T (rises key items) → IsSortedBy (λ a b. is_lt (link_cmp (key a) (key b))) items
  neighbours [] h i d low lt = absurd (omega arith)
  neighbours (item ∷ more) h zero d low lt =
      let next : 0 < length more = omega arith in
      ap is_lt (turned (key item) (key (get_or more 0 d)) Less (below_at (key item) more 0 d (first _ _ h) next))
  neighbours (item ∷ more) h (suc i) d low lt =
      let next : suc i + 1 ≡ suc (i + 1) = omega arith in
      ap (λ n. is_lt (link_cmp (key (get_or (item ∷ more) n d)) (key (get_or more i d)))) next ∙ neighbours more (second _ _ h) i d (omega arith) (omega arith)

  found_at : (items : List A) (k : LinkKey) (i : ℕ) (d : A) → T (rises key items) → i < length items → link_cmp (key (get_or items i d)) k ≡ Equal
      → (find (is_at key k) items ≡ Some (get_or items i d)) × ((item : A) → key item ≡ k → put_item key item items ≡ set items i item)
  found_at [] k i d h lt e = absurd (omega arith)
  found_at (first_one ∷ more) k zero d h lt e =
      let here = tied_back link_total (key first_one) k e in (
        ap (λ r. cond (is_eq r) (Some first_one) (find (is_at key k) more)) here,
        λ item is.
            ap (λ j. by_order (link_cmp j (key first_one)) (item ∷ first_one ∷ more) (item ∷ more) (first_one ∷ put_item key item more)) is
            ∙ ap (λ r. by_order r (item ∷ first_one ∷ more) (item ∷ more) (first_one ∷ put_item key item more)) here,
      )
  found_at (first_one ∷ more) k (suc i) d h lt e =
      let within : i < length more = omega arith in
      let later = found_at more k i d (second _ _ h) within e in
      let below = sym (alike_right link_total (key (get_or more i d)) k (key first_one) e) ∙ below_at (key first_one) more i d (first _ _ h) within in
      let above = turned (key first_one) k Less below in (
        ap (λ r. cond (is_eq r) (Some first_one) (find (is_at key k) more)) above ∙ later.0,
        λ item is.
            ap (λ j. by_order (link_cmp j (key first_one)) (item ∷ first_one ∷ more) (item ∷ more) (first_one ∷ put_item key item more)) is
            ∙ ap (λ r. by_order r (item ∷ first_one ∷ more) (item ∷ more) (first_one ∷ put_item key item more)) above
            ∙ ap (λ l. first_one ∷ l) (later.1 item is),
      )

  gap_at : (items : List A) (k : LinkKey) (i : ℕ) → i ≤ length items → AllWithin (λ item. link_cmp (key item) k ≡ Less) items 0 i → AllWithin (λ item. link_cmp (key item) k ≡ Greater) items i (length items)
      → (find (is_at key k) items ≡ None) × ((item : A) → key item ≡ k → put_item key item items ≡ insert items i item)
  gap_at [] k zero le before behind = (refl, λ item is. refl)
  gap_at [] k (suc i) le before behind = absurd (omega arith)
  gap_at (first_one ∷ more) k zero le before behind =
      let here = turned (key first_one) k Greater (behind 0 first_one (omega arith) (omega arith)) in
      let later = gap_at more k 0 (omega arith) (λ j d low lt. absurd (omega arith)) (λ j d low lt. behind (suc j) d (omega arith) (omega arith)) in (
        ap (λ r. cond (is_eq r) (Some first_one) (find (is_at key k) more)) here ∙ later.0,
        λ item is.
            ap (λ j. by_order (link_cmp j (key first_one)) (item ∷ first_one ∷ more) (item ∷ more) (first_one ∷ put_item key item more)) is
            ∙ ap (λ r. by_order r (item ∷ first_one ∷ more) (item ∷ more) (first_one ∷ put_item key item more)) here,
      )
  gap_at (first_one ∷ more) k (suc i) le before behind =
      let here = turned (key first_one) k Less (before 0 first_one (omega arith) (omega arith)) in
      let later = gap_at more k i (omega arith) (λ j d low lt. before (suc j) d (omega arith) (omega arith)) (λ j d low lt. behind (suc j) d (omega arith) (omega arith)) in (
        ap (λ r. cond (is_eq r) (Some first_one) (find (is_at key k) more)) here ∙ later.0,
        λ item is.
            ap (λ j. by_order (link_cmp j (key first_one)) (item ∷ first_one ∷ more) (item ∷ more) (first_one ∷ put_item key item more)) is
            ∙ ap (λ r. by_order r (item ∷ first_one ∷ more) (item ∷ more) (first_one ∷ put_item key item more)) here
            ∙ ap (λ l. first_one ∷ l) (later.1 item is),
      )

  -- what halving answers
  pub searched : (items : List A) (k : LinkKey) (r : Result ℕ ℕ) → rises key items ≡ true → IsSearchInRange r (length items) → IsBinarySearchResult (λ item. link_cmp (key item) k) items r → IfOk r (IsPlace key items k) × IfErr r (IsGap key items k)
  searched items k (Ok i) h lt e = (
    record {
      within = lt;
      found = λ d. (found_at items k i d (holds _ h) lt (e d)).0;
      put = λ item. (found_at items k i item (holds _ h) lt (e item)).1 item;
    },
    tt,
  )
  searched items k (Err i) h le e =
      let p = e (searchable_from_sorted link_total key items k (neighbours items (holds _ h))) in
      let g = gap_at items k i le p.0 p.1 in
      (tt, record { within = le; found = g.0; put = g.1 })

  entries-put : (item : A) (items : List A) → map entry (put_item key item items) ≡ put link_cmp (key item) item (map entry items)
  entries-put item [] = refl
  entries-put item (first_one ∷ more) =
      elim (link_cmp (key item) (key first_one)) as (λ r. link_cmp (key item) (key first_one) ≡ r → map entry (by_order r (item ∷ first_one ∷ more) (item ∷ more) (first_one ∷ put_item key item more)) ≡ by_order r ((key item, item) ∷ map entry (first_one ∷ more)) ((key first_one, item) ∷ map entry more) (entry first_one ∷ put link_cmp (key item) item (map entry more))) [
        | Less ↦ λ e. refl
        | Equal ↦ λ e i. (link_same (key item) (key first_one) e i, item) ∷ map entry more
        | Greater ↦ λ e. ap (λ es. entry first_one ∷ es) (entries-put item more)
      ] refl

  pub rises-put : (item : A) (items : List A) → rises key items ≡ true → rises key (put_item key item items) ≡ true
  rises-put item items h = ap (is_sorted link_cmp) (entries-put item items) ∙ is_true _ (is_sorted-put link_cmp link_total (key item) item (map entry items) (holds _ h))

  pub rises-without : (k : LinkKey) (items : List A) → rises key items ≡ true → rises key (without key k items) ≡ true
  rises-without k items h =
      ap (is_sorted link_cmp) (map-filter entry (λ e. not (eq_by_cmp link_cmp k e.0)) items) ∙ is_true _ (is_sorted-where_key link_cmp (λ q. not (eq_by_cmp link_cmp k q)) (map entry items) (holds _ h))
