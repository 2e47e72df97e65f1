-- What is said of each entry of a map: by its keys, and along its list.
use Rattle.std.proofs.Common.{◌≡◌, Bool, true, false, ◌&&◌, cond, List, [], ◌∷◌, Some, None, refl, sym, ap, subst, ◌∙◌}
use Rattle.std.specs.Prelude.{T, map}
use Rattle.std.specs.List.{AllByRecursion, list_all}
use Rattle.std.specs.Ordering.{eq_by_cmp, is_eq, is_lt}
use Rattle.std.specs.declared.cmp.Ordering.{Ordering}
use Rattle.std.specs.declared.cmp.Ordering.TheVariants.{Less, Equal, Greater}
use Rattle.std.specs.Cmp.{IsTotalOrder, tied_itself, Equal-is}
use Rattle.std.specs.FinMap.{FinMap, IsAntisymmetric, entries, entries_sorted, find, get, get-entries, is_sorted}
use Rattle.std.specs.FinMap.Entries.{below_all}
use Rattle.std.proofs.lemmas.Bool.{and_parts}

pub first : (a b : Bool) → T (a && b) → T a
first true b h = tt
first false b h = absurd h

pub second : (a b : Bool) → T (a && b) → T b
second true b h = h
second false b h = absurd h

not_tied : (r : Ordering) → T (is_lt r) → is_eq r ≡ false
not_tied Less h = refl
not_tied Equal h = absurd h
not_tied Greater h = absurd h

-- a key below all of a list does not stand in it
pub find-below : {K X : Type 0} (R : K → K → Ordering) (x : K) (es : List (K × X)) → T (below_all R x es) → find R x es ≡ None
find-below R x [] h = refl
find-below R x (e ∷ es) h = ap (λ (b : Bool). cond b (Some e.1) (find R x es)) (not_tied (R x e.0) (first _ _ h)) ∙ find-below R x es (second _ _ h)

module _ {K X : Type 0} {R : K → K → Ordering} where
  module _ (o : IsTotalOrder R) (same : IsAntisymmetric R) where
    find-tail : (q : K) (v : X) (e : K × X) (es : List (K × X)) → T (below_all R e.0 es) → find R q es ≡ Some v → find R q (e ∷ es) ≡ Some v
    find-tail q v e es below is = elim (eq_by_cmp R q e.0) as (λ b. eq_by_cmp R q e.0 ≡ b → cond b (Some e.1) (find R q es) ≡ Some v) [
      | true ↦ λ t. absurd (
          let none : find R q es ≡ None = ap (λ (k : K). find R k es) (same q e.0 ((Equal-is (R q e.0)).0 t)) ∙ find-below R e.0 es below in
          let no : None ≡ Some v = sym none ∙ is in cc)
      | false ↦ λ t. is
    ] refl

    all-found : (P : K × X → Type 0) (es : List (K × X)) → T (is_sorted R es) → ((k : K) (v : X) → find R k es ≡ Some v → P (k, v)) → AllByRecursion P es
    all-found P [] h each = tt
    all-found P (e ∷ es) h each = (
      each e.0 e.1 (ap (λ (r : Ordering). cond (is_eq r) (Some e.1) (find R e.0 es)) (tied_itself o e.0)),
      all-found P es (second _ _ h) (λ k v is. each k v (find-tail k v e es (first _ _ h) is)),
    )

    found-all : (P : K × X → Type 0) (es : List (K × X)) → AllByRecursion P es → (k : K) (v : X) → find R k es ≡ Some v → P (k, v)
    found-all P [] all k v is = absurd cc
    found-all P (e ∷ es) all k v is = elim (eq_by_cmp R k e.0) as (λ b. eq_by_cmp R k e.0 ≡ b → cond b (Some e.1) (find R k es) ≡ Some v → P (k, v)) [
      | true ↦ λ t one.
          let key : k ≡ e.0 = same k e.0 ((Equal-is (R k e.0)).0 t) in
          let value : e.1 ≡ v = cc in
          subst (λ (x : K). P (x, v)) (sym key) (subst (λ (y : X). P (e.0, y)) value all.0)
      | false ↦ λ t rest. found-all P es all.1 k v rest
    ] refl is

    pub all-entries : (P : K × X → Type 0) (m : FinMap R X) → ((k : K) (v : X) → get m k ≡ Some v → P (k, v)) → AllByRecursion P (entries m)
    all-entries P m each = all-found P (entries m) (entries_sorted m) (λ k v is. each k v (get-entries m k ∙ is))

    pub entries-all : (P : K × X → Type 0) (m : FinMap R X) → AllByRecursion P (entries m) → (k : K) (v : X) → get m k ≡ Some v → P (k, v)
    entries-all P m all k v is = found-all P (entries m) all k v (sym (get-entries m k) ∙ is)

-- ---- tests

pub tests-all : {A : Type 0} (p : A → Bool) (xs : List A) → AllByRecursion (λ x. p x ≡ true) xs → list_all p xs ≡ true
tests-all p [] h = refl
tests-all p (x ∷ xs) h = ap (λ (b : Bool). b && list_all p xs) h.0 ∙ tests-all p xs h.1

pub all-tests : {A : Type 0} (p : A → Bool) (xs : List A) → list_all p xs ≡ true → AllByRecursion (λ x. p x ≡ true) xs
all-tests p [] h = tt
all-tests p (x ∷ xs) h = let both = and_parts (p x) (list_all p xs) h in (both.0, all-tests p xs both.1)

-- what holds of each item as it is seen
along : {A B : Type 0} (P : B → Type 0) (see : A → B) (xs : List A) → AllByRecursion P (map see xs) → AllByRecursion (λ x. P (see x)) xs
along P see [] h = tt
along P see (x ∷ xs) h = (h.0, along P see xs h.1)

pub all-seen : {A B : Type 0} (P : B → Type 0) (see : A → B) (xs : List A) (ys : List B) → map see xs ≡ ys → AllByRecursion P ys → AllByRecursion (λ x. P (see x)) xs
all-seen P see xs ys e h = along P see xs (subst (AllByRecursion P) (sym e) h)
