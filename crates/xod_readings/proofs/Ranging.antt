-- The entries of a tree that lie in a range, told by what stands there: a rising list with exactly these entries is the range.
use Rattle.std.proofs.Common.{◌≡◌, ◌⊎◌, inl, inr, ⊎_elim, ℕ, zero, suc, ◌+◌, ◌<◌, ◌≤◌, Bool, true, false, cond, not, T, ◌&&◌, List, [], ◌∷◌, ◌++◌, map, Option, Some, None, refl, sym, ap, subst, ◌∙◌, true≢false, arith}
use Rattle.std.specs.Prelude.{is_some}
use Rattle.std.specs.List.{AllByRecursion, filter, flat_map, slice_get}
use Rattle.std.specs.declared.cmp.Ordering.{Ordering}
use Rattle.std.specs.declared.cmp.Ordering.TheVariants.{Less, Equal, Greater}
use Rattle.std.specs.Ordering.{eq_by_cmp, is_eq, is_lt, is_gt, nat_cmp, ordering_then, ordering_reverse}
use Rattle.std.specs.Cmp.{IsTotalOrder, tied_itself, nat_cmp_is, ranked}
use Rattle.std.specs.FinMap.{FinMap, IsAntisymmetric, from_entries, entries, entries_sorted, keys, get, find, is_sorted, get-entries, get-from_entries}
use Rattle.std.specs.FinMap.Entries.{below_all, is_sorted-where_key, find-where_key, same_entries}
use Rattle.xod_base.specs.Values.{bytes_cmp, is_within}
use Rattle.xod_base.specs.Views.{Entry, Tree}
use Rattle.xod_range.specs.Ranges.{in_range}
use Rattle.xod_keys.specs.Readings.{read_behind, all_read}
use Rattle.xod_carry.specs.Carry.{with_pair, carried, carry, numbered}
use Rattle.xod_carry.proofs.CallerLemmas.{bytes_total, bytes_same, tied_is, each_append, each_by_get, entries-from_entries}
pub use Rattle.xod_tables.proofs.CallerLemmas.{same_some, not_none}

both : (a b : Bool) → T a → T b → T (a && b)
both true b p q = q
both false b p q = p

parts : (a b : Bool) → T (a && b) → T a × T b
parts true b h = (tt, h)
parts false b h = absurd h

-- ---- what is in a list

-- an item is one of a list
abbrev pub In : {A : Type 0} → A → List A → Type 0
In x [] = ⊥
In x (y ∷ ys) = (y ≡ x) ⊎ In x ys

module _ {A : Type 0} where
  -- what holds of each item holds of one that is in the list
  pub in_each : (P : A → Type 0) (xs : List A) (x : A) → AllByRecursion P xs → In x xs → P x
  in_each P [] x h i = absurd i
  in_each P (y ∷ ys) x h i = ⊎_elim (λ e. subst P e h.0) (λ j. in_each P ys x h.1 j) i

  -- and the other way round
  pub each_in : (P : A → Type 0) (xs : List A) → ((x : A) → In x xs → P x) → AllByRecursion P xs
  each_in P [] h = tt
  each_in P (x ∷ xs) h = (h x (inl refl), each_in P xs (λ y i. h y (inr i)))

  pub in_left : (xs ys : List A) (x : A) → In x xs → In x (xs ++ ys)
  in_left [] ys x i = absurd i
  in_left (y ∷ xs) ys x i = ⊎_elim (λ e. inl e) (λ j. inr (in_left xs ys x j)) i

  pub in_right : (xs ys : List A) (x : A) → In x ys → In x (xs ++ ys)
  in_right [] ys x i = i
  in_right (y ∷ xs) ys x i = inr (in_right xs ys x i)

  pub in_filter : (p : A → Bool) (xs : List A) (x : A) → In x xs → p x ≡ true → In x (filter p xs)
  in_filter p [] x i h = absurd i
  in_filter p (y ∷ ys) x i h = ⊎_elim
      (λ e. subst (λ b. In x (cond b (y ∷ filter p ys) (filter p ys))) (sym (ap p e ∙ h)) (inl e))
      (λ j. later (p y) (in_filter p ys x j h)) i
    where
      later : (b : Bool) → In x (filter p ys) → In x (cond b (y ∷ filter p ys) (filter p ys))
      later true r = inr r
      later false r = r

  -- what holds of each item holds of each that passes a test, and these pass it
  pub each_filter : (P : A → Type 0) (p : A → Bool) (xs : List A) → AllByRecursion P xs → AllByRecursion (λ x. P x × (p x ≡ true)) (filter p xs)
  each_filter P p [] h = tt
  each_filter P p (x ∷ xs) h = here (p x) refl (each_filter P p xs h.1)
    where
      here : (b : Bool) → p x ≡ b → AllByRecursion (λ y. P y × (p y ≡ true)) (filter p xs) → AllByRecursion (λ y. P y × (p y ≡ true)) (cond b (x ∷ filter p xs) (filter p xs))
      here true e rest = ((h.0, e), rest)
      here false e rest = rest

  each_kept : (P : A → Type 0) (p : A → Bool) (xs : List A) → AllByRecursion P xs → AllByRecursion P (filter p xs)
  each_kept P p [] h = tt
  each_kept P p (x ∷ xs) h = elim (p x) as (λ b. AllByRecursion P (cond b (x ∷ filter p xs) (filter p xs))) [
    | true ↦ (h.0, each_kept P p xs h.1)
    | false ↦ each_kept P p xs h.1
  ]

module _ {A B : Type 0} where
  pub in_map : (f : A → B) (xs : List A) (x : A) → In x xs → In (f x) (map f xs)
  in_map f [] x i = absurd i
  in_map f (y ∷ ys) x i = ⊎_elim (λ e. inl (ap f e)) (λ j. inr (in_map f ys x j)) i

  pub each_map : (P : B → Type 0) (f : A → B) (xs : List A) → AllByRecursion (λ x. P (f x)) xs → AllByRecursion P (map f xs)
  each_map P f [] h = tt
  each_map P f (x ∷ xs) h = (h.0, each_map P f xs h.1)

  pub in_flat_map : (f : A → List B) (xs : List A) (x : A) (y : B) → In x xs → In y (f x) → In y (flat_map f xs)
  in_flat_map f [] x y i j = absurd i
  in_flat_map f (z ∷ zs) x y i j = ⊎_elim
      (λ e. in_left (f z) (flat_map f zs) y (subst (λ w. In y (f w)) (sym e) j))
      (λ k. in_right (f z) (flat_map f zs) y (in_flat_map f zs x y k j)) i

  pub each_flat_map : (P : B → Type 0) (f : A → List B) (xs : List A) → AllByRecursion (λ x. AllByRecursion P (f x)) xs → AllByRecursion P (flat_map f xs)
  each_flat_map P f [] h = tt
  each_flat_map P f (x ∷ xs) h = each_append P (f x) (flat_map f xs) h.0 (each_flat_map P f xs h.1)

-- ---- items with their numbers
module _ {X : Type 0} where
  numbered_each : (P : ℕ × X → Type 0) (i : ℕ) (xs : List X) → ((j : ℕ) (x : X) → slice_get xs j ≡ Some x → P (i + j, x)) → AllByRecursion P (numbered i xs)
  numbered_each P i [] h = tt
  numbered_each P i (x ∷ xs) h =
      let here : i + 0 ≡ i = omega arith in
      (subst (λ k. P (k, x)) here (h 0 x refl), numbered_each P (suc i) xs (λ j y is. let next : i + suc j ≡ suc i + j = omega arith in subst (λ k. P (k, y)) next (h (suc j) y is)))

  -- what holds of each item at its place holds of each item with its number
  pub each_numbered : (P : ℕ × X → Type 0) (xs : List X) → ((j : ℕ) (x : X) → slice_get xs j ≡ Some x → P (j, x)) → AllByRecursion P (numbered 0 xs)
  each_numbered P xs h = numbered_each P 0 xs (λ j x is. let same : j ≡ 0 + j = omega arith in subst (λ k. P (k, x)) same (h j x is))

  numbered_in : (i j : ℕ) (xs : List X) (x : X) → slice_get xs j ≡ Some x → In (i + j, x) (numbered i xs)
  numbered_in i j [] x is = absurd (not_none x (sym is))
  numbered_in i zero (y ∷ ys) x is = let here : i ≡ i + 0 = omega arith in inl (λ k. (here k, same_some y x is k))
  numbered_in i (suc j) (y ∷ ys) x is = let next : suc i + j ≡ i + suc j = omega arith in inr (subst (λ k. In (k, x) (numbered (suc i) ys)) next (numbered_in (suc i) j ys x is))

  -- an item at its place is there with its number
  pub in_numbered : (j : ℕ) (xs : List X) (x : X) → slice_get xs j ≡ Some x → In (j, x) (numbered 0 xs)
  in_numbered j xs x is = let same : 0 + j ≡ j = omega arith in subst (λ k. In (k, x) (numbered 0 xs)) same (numbered_in 0 j xs x is)

-- ---- entries of maps
module _ {K X L Y : Type 0} (f : K → Option L) (g : X → Y) where
  -- what holds of each image holds of each carried entry
  pub each_carried : (P : L × Y → Type 0) (es : List (K × X)) → AllByRecursion (λ e. (l : L) → f e.0 ≡ Some l → P (l, g e.1)) es → AllByRecursion P (carried f g es)
  each_carried P [] h = tt
  each_carried P (e ∷ es) h = here (f e.0) refl (each_carried P es h.1)
    where
      here : (a : Option L) → f e.0 ≡ a → AllByRecursion P (carried f g es) → AllByRecursion P (with_pair a (g e.1) (carried f g es))
      here None is rest = rest
      here (Some l) is rest = (h.0 l is, rest)

module _ {K X : Type 0} {R : K → K → Ordering} (o : IsTotalOrder R) (same : IsAntisymmetric R) where
  -- what is found is there
  pub found_in : (q : K) (v : X) (es : List (K × X)) → find R q es ≡ Some v → In (q, v) es
  found_in q v [] is = absurd (not_none v (sym is))
  found_in q v (e ∷ es) is = here (eq_by_cmp R q e.0) refl is (λ later. found_in q v es later)
    where
      here : (b : Bool) → eq_by_cmp R q e.0 ≡ b → cond b (Some e.1) (find R q es) ≡ Some v → (find R q es ≡ Some v → In (q, v) es) → In (q, v) (e ∷ es)
      here true t is rest = let key = sym (tied_is same q e.0 t) in inl (λ i. (key i, same_some e.1 v is i))
      here false t is rest = inr (rest is)

  -- what is there is found, it or one before it
  pub in_found : (q : K) (v : X) (es : List (K × X)) → In (q, v) es → is_some (find R q es) ≡ true
  in_found q v [] i = absurd i
  in_found q v (e ∷ es) i = ⊎_elim
      (λ (is : e ≡ (q, v)). ap (λ b. is_some (cond b (Some e.1) (find R q es))) (ap (λ (x : K × X). eq_by_cmp R q x.0) is ∙ ap is_eq (tied_itself o q)))
      (λ j. later (eq_by_cmp R q e.0) (in_found q v es j)) i
    where
      later : (b : Bool) → is_some (find R q es) ≡ true → is_some (cond b (Some e.1) (find R q es)) ≡ true
      later true h = refl
      later false h = h

  pub in_entries : (m : FinMap R X) (k : K) (v : X) → get m k ≡ Some v → In (k, v) (entries m)
  in_entries m k v is = found_in k v (entries m) (sym (get-entries m k) ∙ is)

  -- each entry stands in the map
  pub each_stands : (m : FinMap R X) → AllByRecursion (λ e. get m e.0 ≡ Some e.1) (entries m)
  each_stands m = each_by_get o same (λ e. get m e.0 ≡ Some e.1) m (λ k v is. is)

  -- what holds of each entry of a list holds of what the list's map has
  pub known_each : (P : K × X → Type 0) (es : List (K × X)) (q : K) (v : X) → AllByRecursion P es → get (from_entries {R = R} es) q ≡ Some v → P (q, v)
  known_each P es q v h is = in_each P es (q, v) h (found_in q v es (sym (get-from_entries o es q) ∙ is))

-- ---- lists that rise

-- each item is below all that come later
abbrev pub Rises : {A : Type 0} → (A → A → Ordering) → List A → Type 0
Rises R [] = Unit {0}
Rises R (x ∷ xs) = AllByRecursion (λ y. R x y ≡ Less) xs × Rises R xs

lesser : (r : Ordering) → T (is_lt r) → r ≡ Less
lesser Less h = refl
lesser Equal h = absurd h
lesser Greater h = absurd h

module _ {A : Type 0} (R : A → A → Ordering) where
  pub rises_filter : (p : A → Bool) (xs : List A) → Rises R xs → Rises R (filter p xs)
  rises_filter p [] h = tt
  rises_filter p (x ∷ xs) h = elim (p x) as (λ b. Rises R (cond b (x ∷ filter p xs) (filter p xs))) [
    | true ↦ (each_kept (λ y. R x y ≡ Less) p xs h.0, rises_filter p xs h.1)
    | false ↦ rises_filter p xs h.1
  ]

  pub rises_append : (xs ys : List A) → Rises R xs → Rises R ys → AllByRecursion (λ x. AllByRecursion (λ y. R x y ≡ Less) ys) xs → Rises R (xs ++ ys)
  rises_append [] ys g h below = h
  rises_append (x ∷ xs) ys g h below = (each_append (λ y. R x y ≡ Less) xs ys g.0 below.0, rises_append xs ys g.1 h below.1)

module _ {A B : Type 0} (R : A → A → Ordering) (S : B → B → Ordering) (P : A → Type 0) where
  below_map : (f : A → B) (x : A) → ((y : A) → P y → R x y ≡ Less → S (f x) (f y) ≡ Less) → (xs : List A) → AllByRecursion P xs → AllByRecursion (λ y. R x y ≡ Less) xs
      → AllByRecursion (λ y. S (f x) y ≡ Less) (map f xs)
  below_map f x step [] p h = tt
  below_map f x step (y ∷ ys) p h = (step y p.0 h.0, below_map f x step ys p.1 h.1)

  -- images rise where each step up is one of the images
  pub rises_map : (f : A → B) → ((x y : A) → P x → P y → R x y ≡ Less → S (f x) (f y) ≡ Less)
      → (xs : List A) → AllByRecursion P xs → Rises R xs → Rises S (map f xs)
  rises_map f step [] p h = tt
  rises_map f step (x ∷ xs) p h = (below_map f x (λ y. step x y p.0) xs p.1 h.0, rises_map f step xs p.1 h.1)

  below_flat_map : (f : A → List B) (x : A) → ((y : A) → P y → R x y ≡ Less → AllByRecursion (λ a. AllByRecursion (λ b. S a b ≡ Less) (f y)) (f x))
      → (xs : List A) → AllByRecursion P xs → AllByRecursion (λ y. R x y ≡ Less) xs → (a : B) → In a (f x) → AllByRecursion (λ b. S a b ≡ Less) (flat_map f xs)
  below_flat_map f x step [] p h a i = tt
  below_flat_map f x step (y ∷ ys) p h a i = each_append (λ b. S a b ≡ Less) (f y) (flat_map f ys)
      (in_each (λ c. AllByRecursion (λ b. S c b ≡ Less) (f y)) (f x) a (step y p.0 h.0) i)
      (below_flat_map f x step ys p.1 h.1 a i)

  -- lists that rise, one behind the other, where each step up is one from all of a list to all of the next
  pub rises_flat_map : (f : A → List B) → ((x y : A) → P x → P y → R x y ≡ Less → AllByRecursion (λ a. AllByRecursion (λ b. S a b ≡ Less) (f y)) (f x))
      → (xs : List A) → AllByRecursion P xs → AllByRecursion (λ x. Rises S (f x)) xs → Rises R xs → Rises S (flat_map f xs)
  rises_flat_map f step [] p each h = tt
  rises_flat_map f step (x ∷ xs) p each h = rises_append S (f x) (flat_map f xs) each.0 (rises_flat_map f step xs p.1 each.1 h.1)
      (each_in (λ a. AllByRecursion (λ b. S a b ≡ Less) (flat_map f xs)) (f x) (below_flat_map f x (λ y. step x y p.0) xs p.1 h.0))

-- entries by their numbers
abbrev pub number_cmp : {X : Type 0} → ℕ × X → ℕ × X → Ordering
number_cmp a b = nat_cmp a.0 b.0

below_numbered : {X : Type 0} (i : ℕ) (x : X) (j : ℕ) (xs : List X) → i < j → AllByRecursion (λ e. number_cmp (i, x) e ≡ Less) (numbered j xs)
below_numbered i x j [] h = tt
below_numbered i x j (y ∷ ys) h = (sym (nat_cmp_is i j Less h), below_numbered i x (suc j) ys (omega (arith, h)))

pub rises_numbered : {X : Type 0} (i : ℕ) (xs : List X) → Rises number_cmp (numbered i xs)
rises_numbered i [] = tt
rises_numbered i (x ∷ xs) = (below_numbered i x (suc i) xs (omega arith), rises_numbered (suc i) xs)

module _ {K X : Type 0} (R : K → K → Ordering) where
  keys_below : (k : K) (es : List (K × X)) → T (below_all R k es) → AllByRecursion (λ l. R k l ≡ Less) (map (λ e. e.0) es)
  keys_below k [] h = tt
  keys_below k (e ∷ es) h = let t = parts (is_lt (R k e.0)) (below_all R k es) h in (lesser (R k e.0) t.0, keys_below k es t.1)

  keys_rise : (es : List (K × X)) → T (is_sorted R es) → Rises R (map (λ e. e.0) es)
  keys_rise [] h = tt
  keys_rise (e ∷ es) h = let t = parts (below_all R e.0 es) (is_sorted R es) h in (keys_below e.0 es t.0, keys_rise es t.1)

  below_keys : (k : K) (es : List (K × X)) → AllByRecursion (λ e. R k e.0 ≡ Less) es → T (below_all R k es)
  below_keys k [] h = tt
  below_keys k (e ∷ es) h = both (is_lt (R k e.0)) (below_all R k es) (subst (λ r. T (is_lt r)) (sym h.0) tt) (below_keys k es h.1)

  -- entries that rise by their keys are in order
  pub rises_sorted : (es : List (K × X)) → Rises (λ a b. R a.0 b.0) es → T (is_sorted R es)
  rises_sorted [] h = tt
  rises_sorted (e ∷ es) h = both (below_all R e.0 es) (is_sorted R es) (below_keys e.0 es h.0) (rises_sorted es h.1)

  -- the keys of a map rise
  pub rises_keys : (m : FinMap R X) → Rises R (keys m)
  rises_keys m = keys_rise (entries m) (entries_sorted m)

-- ---- ranges

-- a list has exactly the entries of a tree that lie in a range, and rises
pub record IsRange (low high : List ℕ) (tree : Tree) (list : List Entry) : Type 0 where
  pub rises : Rises (λ a b. bytes_cmp a.0 b.0) list
  pub within : AllByRecursion (λ e. is_within low high e.0 ≡ true) list
  pub stand : AllByRecursion (λ e. get tree e.0 ≡ Some e.1) list
  pub met : (key value : List ℕ) → get tree key ≡ Some value → is_within low high key ≡ true → In (key, value) list

-- such a list is the range
pub in_range_is : (low high : List ℕ) (tree : Tree) (list : List Entry) → IsRange low high tree list → in_range low high tree ≡ list
in_range_is low high tree list h = same_entries bytes_cmp bytes_total bytes_same (in_range low high tree) list
    (is_sorted-where_key bytes_cmp (is_within low high) (entries tree) (entries_sorted tree)) (rises_sorted bytes_cmp list h.rises)
    (λ q. find-where_key bytes_cmp (is_within low high) q (λ x t. ap (is_within low high) (sym (bytes_same q x t))) (entries tree)
    ∙ ap (λ o. cond (is_within low high q) o None) (sym (get-entries tree q)) ∙ at q (find bytes_cmp q list) refl)
  where
    listed : (q v : List ℕ) → find bytes_cmp q list ≡ Some v → In (q, v) list
    listed q v is = found_in bytes_total bytes_same q v list is

    there : (q v : List ℕ) → find bytes_cmp q list ≡ Some v → cond (is_within low high q) (get tree q) None ≡ Some v
    there q v is = ap (λ b. cond b (get tree q) None) (in_each (λ e. is_within low high e.0 ≡ true) list (q, v) h.within (listed q v is))
        ∙ in_each (λ e. get tree e.0 ≡ Some e.1) list (q, v) h.stand (listed q v is)

    absent : (q : List ℕ) (b : Bool) (o : Option (List ℕ)) → is_within low high q ≡ b → get tree q ≡ o → find bytes_cmp q list ≡ None → cond b o None ≡ None
    absent q false o w g is = refl
    absent q true None w g is = refl
    absent q true (Some v) w g is = absurd (true≢false (sym (in_found bytes_total bytes_same q v list (h.met q v g w)) ∙ ap is_some is))

    at : (q : List ℕ) (o : Option (List ℕ)) → find bytes_cmp q list ≡ o → cond (is_within low high q) (get tree q) None ≡ find bytes_cmp q list
    at q None is = absent q (is_within low high q) (get tree q) refl refl is ∙ sym is
    at q (Some v) is = there q v is ∙ sym is

-- ---- trees whose entries are those of a map, in its order
module _ {K X : Type 0} (f : K → List ℕ) (g : X → List ℕ) where
  abbrev pub image : List (K × X) → List Entry
  image es = carried (λ k. Some (f k)) g es

  -- of these entries those pass a test whose keys do
  pub filter_image : (p : List ℕ → Bool) (q : K → Bool) (es : List (K × X)) → AllByRecursion (λ e. p (f e.0) ≡ q e.0) es
      → filter (λ e. p e.0) (image es) ≡ image (filter (λ e. q e.0) es)
  filter_image p q [] h = refl
  filter_image p q (e ∷ es) h = ap (λ l. cond (p (f e.0)) ((f e.0, g e.1) ∷ l) l) (filter_image p q es h.1)
      ∙ ap (λ b. cond b ((f e.0, g e.1) ∷ image (filter (λ x. q x.0) es)) (image (filter (λ x. q x.0) es))) h.0
      ∙ pushed (q e.0) (filter (λ x. q x.0) es)
    where
      pushed : (b : Bool) (xs : List (K × X)) → cond b ((f e.0, g e.1) ∷ image xs) (image xs) ≡ image (cond b (e ∷ xs) xs)
      pushed true xs = refl
      pushed false xs = refl

module _ {K X : Type 0} {R : K → K → Ordering} (f : K → List ℕ) (g : X → List ℕ) (P : K → Type 0) (agree : (x y : K) → P x → P y → bytes_cmp (f x) (f y) ≡ R x y) where
  image_below : (k : K) → P k → (es : List (K × X)) → AllByRecursion (λ e. P e.0) es → T (below_all R k es) → AllByRecursion (λ e. bytes_cmp (f k) e.0 ≡ Less) (image f g es)
  image_below k s [] p h = tt
  image_below k s (e ∷ es) p h =
      let t = parts (is_lt (R k e.0)) (below_all R k es) h in
      (agree k e.0 s p.0 ∙ lesser (R k e.0) t.0, image_below k s es p.1 t.1)

  image_rises : (es : List (K × X)) → AllByRecursion (λ e. P e.0) es → T (is_sorted R es) → Rises (λ a b. bytes_cmp a.0 b.0) (image f g es)
  image_rises [] p h = tt
  image_rises (e ∷ es) p h =
      let t = parts (below_all R e.0 es) (is_sorted R es) h in
      (image_below e.0 p.0 es p.1 t.0, image_rises es p.1 t.1)

  -- where the keys are in the order of the map's, a carried map has its entries in their order
  pub carry_entries : (m : FinMap R X) → AllByRecursion (λ e. P e.0) (entries m) → entries (carry (λ k. Some (f k)) g bytes_cmp m) ≡ image f g (entries m)
  carry_entries m p = entries-from_entries bytes_total bytes_same (image f g (entries m))
      (rises_sorted bytes_cmp (image f g (entries m)) (image_rises (entries m) p (entries_sorted m)))

-- ---- what is read of lists

behind : {A : Type 0} (o : Option A) (x : A) (all : Option (List A)) (xs : List A) → o ≡ Some x → all ≡ Some xs → read_behind o all ≡ Some (x ∷ xs)
behind o x all xs e h = λ i. read_behind (e i) (h i)

module _ {A B : Type 0} (read : Entry → Option B) (f : A → Entry) (g : A → B) where
  -- a list of which each item is read
  pub all_read_map : (xs : List A) → AllByRecursion (λ x. read (f x) ≡ Some (g x)) xs → all_read read (map f xs) ≡ Some (map g xs)
  all_read_map [] h = refl
  all_read_map (x ∷ xs) h = behind (read (f x)) (g x) (all_read read (map f xs)) (map g xs) h.0 (all_read_map xs h.1)

-- a list of which each item is read back
pub all_read_back : {A : Type 0} (read : Entry → Option A) (f : A → Entry) (xs : List A) → AllByRecursion (λ x. read (f x) ≡ Some x) xs
    → all_read read (map f xs) ≡ Some xs
all_read_back read f [] h = refl
all_read_back read f (x ∷ xs) h = behind (read (f x)) x (all_read read (map f xs)) xs h.0 (all_read_back read f xs h.1)

module _ {K X B : Type 0} (read : Entry → Option B) (f : K → List ℕ) (g : X → List ℕ) (h : K × X → B) where
  -- carried entries of which each is read
  pub all_read_carried : (es : List (K × X)) → AllByRecursion (λ e. read (f e.0, g e.1) ≡ Some (h e)) es
      → all_read read (carried (λ k. Some (f k)) g es) ≡ Some (map h es)
  all_read_carried [] p = refl
  all_read_carried (e ∷ es) p = behind (read (f e.0, g e.1)) (h e) (all_read read (carried (λ k. Some (f k)) g es)) (map h es) p.0 (all_read_carried es p.1)

-- ---- keys in a range

two : (a b : Bool) → (a && b) ≡ true → (a ≡ true) × (b ≡ true)
two true b h = (refl, h)
two false b h = absurd (true≢false (sym h))

lowered : (b : Bool) → not b ≡ true → b ≡ false
lowered true h = absurd (true≢false (sym h))
lowered false h = refl

-- a key in a range is not below the low one, and not above the high one
pub within_sides : (low high key : List ℕ) → is_within low high key ≡ true → (is_gt (bytes_cmp low key) ≡ false) × (is_gt (bytes_cmp key high) ≡ false)
within_sides low high key h =
    let t = two (not (is_gt (bytes_cmp low key))) (not (is_gt (bytes_cmp key high))) h in
    (lowered (is_gt (bytes_cmp low key)) t.0, lowered (is_gt (bytes_cmp key high)) t.1)

pub sides_within : (low high key : List ℕ) → is_gt (bytes_cmp low key) ≡ false → is_gt (bytes_cmp key high) ≡ false → is_within low high key ≡ true
sides_within low high key a b = λ i. not (a i) && not (b i)

-- where one order after another is not above, the first one is not
pub first_not_above : (r s : Ordering) → is_gt (ordering_then r s) ≡ false → is_gt r ≡ false
first_not_above Less s h = refl
first_not_above Equal s h = refl
first_not_above Greater s h = h

pub then_not_above : (r s : Ordering) → is_gt r ≡ false → is_gt s ≡ false → is_gt (ordering_then r s) ≡ false
then_not_above Less s g h = refl
then_not_above Equal s g h = h
then_not_above Greater s g h = g

-- what follows equal parts decides
pub next_not_above : (r s : Ordering) → r ≡ Equal → is_gt (ordering_then r s) ≡ false → is_gt s ≡ false
next_not_above r s e h = sym (ap (λ x. is_gt (ordering_then x s)) e) ∙ h

pub nat_not_above : (a b : ℕ) → a ≤ b → is_gt (nat_cmp a b) ≡ false
nat_not_above a b h = at (nat_cmp a b) refl
  where
    at : (r : Ordering) → nat_cmp a b ≡ r → is_gt r ≡ false
    at Less e = refl
    at Equal e = refl
    at Greater e = let above : b < a = ranked a b Greater (sym e) in absurd (omega (arith, above, h))

-- what is neither below nor above is the same
pub pinned : {K : Type 0} {R : K → K → Ordering} → IsTotalOrder R → IsAntisymmetric R → (a x : K) → is_gt (R a x) ≡ false → is_gt (R x a) ≡ false → x ≡ a
pinned {R = R} o same a x g h = at (R x a) refl (ap (λ r. is_gt r) (sym (o.antisymm a x)) ∙ g) h
  where
    at : (r : Ordering) → R x a ≡ r → is_gt (ordering_reverse (R x a)) ≡ false → is_gt (R x a) ≡ false → x ≡ a
    at Less e p q = absurd (true≢false (sym (ap (λ r. is_gt (ordering_reverse r)) e) ∙ p))
    at Equal e p q = same x a e
    at Greater e p q = absurd (true≢false (sym (ap is_gt e) ∙ q))
