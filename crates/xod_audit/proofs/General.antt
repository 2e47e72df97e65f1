-- Maps of lists whose keys are apart, and maps that come back from others.
use Rattle.std.proofs.Common.{◌≡◌, ◌≢◌, ℕ, suc, ◌+◌, ◌<◌, ◌≤◌, ◌^◌, Bool, true, false, cond, ◌&&◌, List, [], ◌∷◌, ◌++◌, length, Option, Some, None, refl, sym, ap, subst, ◌∙◌, true≢false, arith}
use Rattle.std.specs.Prelude.{is_some}
use Rattle.std.specs.List.{AllByRecursion, list_all}
use Rattle.std.specs.declared.cmp.Ordering.{Ordering}
use Rattle.std.specs.Ordering.{eq_by_cmp, is_eq}
use Rattle.std.specs.Cmp.{IsTotalOrder, tied_itself}
use Rattle.std.specs.FinMap.{FinMap, IsAntisymmetric, insert, from_entries, entries, get, find, len, contains_key, get-from_entries, len-insert, len-empty, len-entries}
use Rattle.xod_carry.specs.Carry.{with_pair, added, carried, carry, numbered}
use Rattle.xod_carry.specs.Laws.{AreApart, Returns}
use Rattle.xod_carry.proofs.CallerLemmas.{tied_is, each_too, each_append, each-insert, entries-empty, from_entries-entries, carry-insert, carried_back, carried_apart, entries_apart}
use Rattle.xod_tables.proofs.CallerLemmas.{same_some}

-- ---- tests of all items
pub all_of_each : {A : Type 0} (p : A → Bool) (xs : List A) → AllByRecursion (λ x. p x ≡ true) xs → list_all p xs ≡ true
all_of_each p [] h = refl
all_of_each p (x ∷ xs) h = λ i. h.0 i && all_of_each p xs h.1 i

pub and_so : (a b : Bool) → a ≡ true → b ≡ true → (a && b) ≡ true
and_so a b p q = λ i. p i && q i

pub parts : (a b : Bool) → (a && b) ≡ true → (a ≡ true) × (b ≡ true)
parts true b h = (refl, h)
parts false b h = absurd (true≢false (sym h))

-- ---- maps of lists
module _ {K X : Type 0} {R : K → K → Ordering} (o : IsTotalOrder R) (same : IsAntisymmetric R) where
  -- what holds of each entry of a list holds of each of its map
  pub each_from : (P : K × X → Type 0) (es : List (K × X)) → AllByRecursion P es → AllByRecursion P (entries (from_entries {R = R} es))
  each_from P [] h = subst (AllByRecursion P) (sym (entries-empty o same)) tt
  each_from P (e ∷ es) h = each-insert o same P (from_entries es) e.0 e.1 h.0 (each_from P es h.1)

  lacking : (k : K) (es : List (K × X)) → AllByRecursion (λ e. e.0 ≢ k) es → find R k es ≡ None
  lacking k [] h = refl
  lacking k (e ∷ es) h = at (eq_by_cmp R k e.0) refl (lacking k es h.1)
    where
      at : (b : Bool) → eq_by_cmp R k e.0 ≡ b → find R k es ≡ None → cond b (Some e.1) (find R k es) ≡ None
      at true t rest = absurd (h.0 (sym (tied_is same k e.0 t)))
      at false t rest = rest

  lacks : (k : K) (es : List (K × X)) → AllByRecursion (λ e. e.0 ≢ k) es → get (from_entries {R = R} es) k ≡ None
  lacks k es h = get-from_entries o es k ∙ lacking k es h

  -- the map of a list whose keys are apart has as many entries
  pub len_apart : (es : List (K × X)) → AreApart es → len (from_entries {R = R} es) ≡ length es
  len_apart [] h = len-empty R X
  len_apart (e ∷ es) h =
      let none : contains_key (from_entries {R = R} es) e.0 ≡ false = ap is_some (lacks e.0 es h.0) in
      let rest : len (from_entries {R = R} es) ≡ length es = len_apart es h.1 in
      len-insert o (from_entries es) e.0 e.1
      ∙ ap (λ b. cond b (len (from_entries {R = R} es)) (len (from_entries {R = R} es) + 1)) none
      ∙ omega (arith, rest)

  -- and each of them
  pub stand_apart : (es : List (K × X)) → AreApart es → AllByRecursion (λ e. get (from_entries {R = R} es) e.0 ≡ Some e.1) es
  stand_apart es h = each_too (λ e is. get-from_entries o es e.0 ∙ is) es (found es h)
    where
      other : (e : K × X) (es : List (K × X)) → AllByRecursion (λ x. x.0 ≢ e.0) es → (xs : List (K × X)) → AllByRecursion (λ x. x.0 ≢ e.0) xs
          → AllByRecursion (λ x. find R x.0 es ≡ Some x.1) xs → AllByRecursion (λ x. find R x.0 (e ∷ es) ≡ Some x.1) xs
      other e es h [] a b = tt
      other e es h (x ∷ xs) a b = (at (eq_by_cmp R x.0 e.0) refl, other e es h xs a.1 b.1)
        where
          at : (c : Bool) → eq_by_cmp R x.0 e.0 ≡ c → cond c (Some e.1) (find R x.0 es) ≡ Some x.1
          at true t = absurd (a.0 (tied_is same x.0 e.0 t))
          at false t = b.0

      found : (es : List (K × X)) → AreApart es → AllByRecursion (λ e. find R e.0 es ≡ Some e.1) es
      found [] h = tt
      found (e ∷ es) h = (
        ap (λ r. cond (is_eq r) (Some e.1) (find R e.0 es)) (tied_itself o e.0),
        other e es h.0 es h.0 (found es h.1),
      )

-- lists whose keys are apart, one behind the other
pub apart_append : {K X : Type 0} (xs ys : List (K × X)) → AreApart xs → AreApart ys → AllByRecursion (λ x. AllByRecursion (λ y. y.0 ≢ x.0) ys) xs → AreApart (xs ++ ys)
apart_append [] ys g h a = h
apart_append (x ∷ xs) ys g h a = (each_append (λ y. y.0 ≢ x.0) xs ys g.0 a.0, apart_append xs ys g.1 h a.1)

-- ---- carried lists
module _ {K X L Y : Type 0} (f : K → Option L) (g : X → Y) where
  -- what holds of each image
  pub each_image : (Q : L × Y → Type 0) (es : List (K × X)) → AllByRecursion (λ e. (l : L) → f e.0 ≡ Some l → Q (l, g e.1)) es → AllByRecursion Q (carried f g es)
  each_image Q [] h = tt
  each_image Q (e ∷ es) h = at (f e.0) refl (each_image Q es h.1)
    where
      at : (a : Option L) → f e.0 ≡ a → AllByRecursion Q (carried f g es) → AllByRecursion Q (with_pair a (g e.1) (carried f g es))
      at None is rest = rest
      at (Some l) is rest = (h.0 l is, rest)

  -- and the other way round
  pub image_each : (Q : L × Y → Type 0) (es : List (K × X)) → AllByRecursion Q (carried f g es) → AllByRecursion (λ e. (l : L) → f e.0 ≡ Some l → Q (l, g e.1)) es
  image_each Q [] h = tt
  image_each Q (e ∷ es) h = (
    (λ l is. let own = subst (λ a. AllByRecursion Q (with_pair a (g e.1) (carried f g es))) is h in own.0),
    image_each Q es (later (f e.0) h),
  )
    where
      later : (a : Option L) → AllByRecursion Q (with_pair a (g e.1) (carried f g es)) → AllByRecursion Q (carried f g es)
      later None all = all
      later (Some l) all = all.1

  -- as many images as entries
  pub images_length : (es : List (K × X)) → AllByRecursion (λ e. is_some (f e.0) ≡ true) es → length (carried f g es) ≡ length es
  images_length [] h = refl
  images_length (e ∷ es) h = at (f e.0) h.0 (images_length es h.1)
    where
      at : (a : Option L) → is_some a ≡ true → length (carried f g es) ≡ length es → length (with_pair a (g e.1) (carried f g es)) ≡ suc (length es)
      at None is rest = absurd (true≢false (sym is))
      at (Some l) is rest = ap suc rest

module _ {K X L Y : Type 0} {R : K → K → Ordering} {S : L → L → Ordering} (oR : IsTotalOrder R) (sameR : IsAntisymmetric R) (oS : IsTotalOrder S) (sameS : IsAntisymmetric S) where
  -- the map of a list is carried entry by entry, where each of its keys comes back from its image
  pub carry_from : (b : K → Option L) (h : X → Y) (f : L → Option K) (es : List (K × X)) → AllByRecursion (λ e. (l : L) → b e.0 ≡ Some l → f l ≡ Some e.0) es
      → carry b h S (from_entries {R = R} es) ≡ from_entries {R = S} (carried b h es)
  carry_from b h f [] back = ap (λ es. from_entries {R = S} (carried b h es)) (entries-empty oR sameR)
  carry_from b h f (e ∷ es) back =
      carry-insert oR sameR oS sameS b h (from_entries es) e.0 e.1
      (each_too (λ x c l p q. same_some x.0 e.0 (sym (c l p) ∙ back.0 l q)) (entries (from_entries {R = R} es)) (each_from oR sameR (λ x. (l : L) → b x.0 ≡ Some l → f l ≡ Some x.0) es back.1))
      ∙ put (b e.0) (carry_from b h f es back.1)
    where
      put : (a : Option L) → carry b h S (from_entries {R = R} es) ≡ from_entries {R = S} (carried b h es)
          → added a (h e.1) (carry b h S (from_entries {R = R} es)) ≡ from_entries {R = S} (with_pair a (h e.1) (carried b h es))
      put None rest = rest
      put (Some l) rest = ap (λ m. insert m l (h e.1)) rest

  module _ (f : L → Option K) (g : Y → X) (b : K → Option L) (h : X → Y) (map : FinMap S Y) (all : AllByRecursion (Returns f g b h) (entries map)) where
    keys_back : AllByRecursion (λ e. (l : L) → b e.0 ≡ Some l → f l ≡ Some e.0) (carried f g (entries map))
    keys_back = each_image f g (λ e. (l : L) → b e.0 ≡ Some l → f l ≡ Some e.0) (entries map) (each_too (λ e r k is l back.
        let key : r.0 ≡ k = same_some r.0 k (sym r.1 ∙ is) in
        let own : e.0 ≡ l = same_some e.0 l (sym (r.2) ∙ ap b key ∙ back) in
        ap f (sym own) ∙ is) (entries map) all)

    -- a map comes back from what it is read as, where each entry does
    pub comes_back : carry b h S (carry f g R map) ≡ map
    comes_back = carry_from b h f (carried f g (entries map)) keys_back
        ∙ ap from_entries (carried_back f g b h (entries map) all)
        ∙ from_entries-entries oS sameS map

    -- which has as many entries
    pub len_read : len (carry f g R map) ≡ len map
    len_read = len_apart oR sameR (carried f g (entries map))
        (carried_apart f g b (entries map) (entries_apart oS map) (each_too (λ e r l is. ap b (same_some l r.0 (sym is ∙ r.1)) ∙ r.2) (entries map) all))
        ∙ images_length f g (entries map) (each_too (λ e r. ap is_some r.1) (entries map) all)
        ∙ sym (len-entries map)

-- ---- numbered lists
pub numbered_small : {X : Type 0} (i : ℕ) (xs : List X) → i + length xs ≤ 2 ^ 32 → AllByRecursion (λ e. e.0 < 2 ^ 32) (numbered i xs)
numbered_small i [] h = tt
numbered_small i (x ∷ xs) h = (omega (arith, h), numbered_small (suc i) xs (omega (arith, h)))

above_numbered : {X : Type 0} (k i : ℕ) (xs : List X) → k < i → AllByRecursion (λ e. e.0 ≢ k) (numbered i xs)
above_numbered k i [] h = tt
above_numbered k i (x ∷ xs) h = (λ e. absurd (omega (arith, h, e)), above_numbered k (suc i) xs (omega (arith, h)))

pub numbered_apart : {X : Type 0} (i : ℕ) (xs : List X) → AreApart (numbered i xs)
numbered_apart i [] = tt
numbered_apart i (x ∷ xs) = (above_numbered i (suc i) xs (omega arith), numbered_apart (suc i) xs)
