-- What a put makes of a carried map, and the way there and back.
use Rattle.std.proofs.Common.{◌≡◌, ◌≢◌, Bool, true, false, cond, T, List, [], ◌∷◌, ◌++◌, length, Option, Some, None, refl, sym, ap, subst, ◌∙◌, true≢false, arith}
use Rattle.std.specs.List.{AllByRecursion}
use Rattle.std.specs.declared.cmp.Ordering.{Ordering}
use Rattle.std.specs.declared.cmp.Ordering.TheVariants.{Less, Equal, Greater}
use Rattle.std.specs.Ordering.{eq_by_cmp, is_eq}
use Rattle.std.specs.Cmp.{IsTotalOrder, tied_itself, Equal-is}
use Rattle.std.specs.FinMap.{FinMap, IsAntisymmetric, insert, empty, from_entries, from_sorted, entries, find, put, is_sorted, get-insert, get-entries, get-from_entries, get-from_sorted, entries-insert, entries-from_sorted, same_map, len-empty, len-entries}
use Rattle.std.specs.FinMap.Entries.{by_order}
use Rattle.xod_carry.specs.Carry.{with_pair, added, carried, carry}
use Rattle.xod_carry.specs.Laws.{IsOwn, IsInjective, Returns}
use Rattle.xod_carry.proofs.Lists.{each}

swapped : {A : Type 0} (a b : Bool) (x y z : A) → (a ≡ true → b ≡ true → ⊥) → cond a x (cond b y z) ≡ cond b y (cond a x z)
swapped true true x y z apart = absurd (apart refl refl)
swapped true false x y z apart = refl
swapped false b x y z apart = refl

shadowed : {A : Type 0} (b : Bool) (x y z : A) → cond b x z ≡ cond b x (cond b y z)
shadowed true x y z = refl
shadowed false x y z = refl

nothing : {A : Type 0} (es : List A) → length es ≡ 0 → es ≡ []
nothing [] e = refl
nothing (x ∷ es) e = absurd (omega arith)

-- ---- one map, and lists of its entries

-- keys that tie are equal
pub tied_is : {K : Type 0} {R : K → K → Ordering} → IsAntisymmetric R → (q k : K) → eq_by_cmp R q k ≡ true → q ≡ k
tied_is {R = R} same q k h = same q k ((Equal-is (R q k)).0 h)

two_keys : {K : Type 0} {R : K → K → Ordering} → IsAntisymmetric R → (q k l : K) → (k ≢ l) → eq_by_cmp R q k ≡ true → eq_by_cmp R q l ≡ true → ⊥
two_keys same q k l apart a b = apart (sym (tied_is same q k a) ∙ tied_is same q l b)

module _ {K X : Type 0} {R : K → K → Ordering} (o : IsTotalOrder R) (same : IsAntisymmetric R) where
  pub entries-empty : entries (empty {X = X} {R = R}) ≡ []
  entries-empty = nothing _ (sym (len-entries (empty {X = X} {R = R})) ∙ len-empty R X)

  -- a map is that of its entries
  pub from_entries-entries : (m : FinMap R X) → from_entries (entries m) ≡ m
  from_entries-entries m = same_map o same _ _ (λ q. get-from_entries o (entries m) q ∙ sym (get-entries m q))

  -- a rising list has the entries of its map
  pub entries-from_entries : (es : List (K × X)) → T (is_sorted R es) → entries (from_entries {R = R} es) ≡ es
  entries-from_entries es h =
      let is : from_entries {R = R} es ≡ from_sorted {R = R} es = same_map o same _ _ (λ q. get-from_entries o es q ∙ sym (get-from_sorted R es q h)) in
      ap entries is ∙ entries-from_sorted R es h

  find_amid : (a : List (K × X)) (e : K × X) (b : List (K × X)) (q : K) → AllByRecursion (λ x. x.0 ≢ e.0) a → find R q (a ++ e ∷ b) ≡ cond (eq_by_cmp R q e.0) (Some e.1) (find R q (a ++ b))
  find_amid [] e b q h = refl
  find_amid (x ∷ a) e b q h = ap (cond (eq_by_cmp R q x.0) (Some x.1)) (find_amid a e b q h.1)
      ∙ swapped (eq_by_cmp R q x.0) (eq_by_cmp R q e.0) (Some x.1) (Some e.1) (find R q (a ++ b)) (two_keys same q x.0 e.0 h.0)

  -- an entry amid a list, behind none of its key, is put into the map of the others
  pub from_entries-amid : (a : List (K × X)) (e : K × X) (b : List (K × X)) → AllByRecursion (λ x. x.0 ≢ e.0) a → from_entries {R = R} (a ++ e ∷ b) ≡ insert (from_entries (a ++ b)) e.0 e.1
  from_entries-amid a e b h = same_map o same _ _ (λ q. get-from_entries o (a ++ e ∷ b) q ∙ find_amid a e b q h
      ∙ sym (get-insert o (from_entries (a ++ b)) e.0 e.1 q ∙ ap (cond (eq_by_cmp R q e.0) (Some e.1)) (get-from_entries o (a ++ b) q)))

-- ---- from one map to another
module _ {L Y : Type 0} {S : L → L → Ordering} (same : IsAntisymmetric S) (q : L) where
  hidden : (a : Option L) (v w : Y) (c : List (L × Y)) → find S q (with_pair a v c) ≡ find S q (with_pair a v (with_pair a w c))
  hidden None v w c = refl
  hidden (Some l) v w c = shadowed (eq_by_cmp S q l) (Some v) (Some w) (find S q c)

  under_pair : (a : Option L) (w : Y) (c d : List (L × Y)) → find S q c ≡ find S q d → find S q (with_pair a w c) ≡ find S q (with_pair a w d)
  under_pair None w c d e = e
  under_pair (Some l) w c d e = ap (cond (eq_by_cmp S q l) (Some w)) e

  exchanged : (a b : Option L) (w v : Y) (c : List (L × Y)) → ((l : L) → a ≡ Some l → b ≡ Some l → ⊥) → find S q (with_pair a w (with_pair b v c)) ≡ find S q (with_pair b v (with_pair a w c))
  exchanged None None w v c apart = refl
  exchanged None (Some m) w v c apart = refl
  exchanged (Some l) None w v c apart = refl
  exchanged (Some l) (Some m) w v c apart = swapped (eq_by_cmp S q l) (eq_by_cmp S q m) (Some w) (Some v) (find S q c)
      (λ a b. let is : l ≡ m = sym (tied_is same q l a) ∙ tied_is same q m b in apart l refl (ap Some (sym is)))

module _ {K X L Y : Type 0} {R : K → K → Ordering} {S : L → L → Ordering} (oR : IsTotalOrder R) (sameR : IsAntisymmetric R) (oS : IsTotalOrder S) (sameS : IsAntisymmetric S) (f : K → Option L) (g : X → Y) where
  find-carried-put : (k : K) (v : X) (q : L) (es : List (K × X)) → IsOwn f k es → find S q (carried f g (put R k v es)) ≡ find S q (with_pair (f k) (g v) (carried f g es))
  find-carried-put k v q [] own = refl
  find-carried-put k v q (e ∷ es) own =
      let c = carried f g es in
      elim (R k e.0) as (λ r. R k e.0 ≡ r → find S q (carried f g (by_order r ((k, v) ∷ e ∷ es) ((e.0, v) ∷ es) (e ∷ put R k v es))) ≡ find S q (with_pair (f k) (g v) (with_pair (f e.0) (g e.1) c))) [
        | Less ↦ λ p. refl
        | Equal ↦ λ p. subst (λ j. find S q (with_pair (f j) (g v) c) ≡ find S q (with_pair (f k) (g v) (with_pair (f j) (g e.1) c))) (sameR k e.0 p) (hidden sameS q (f k) (g v) (g e.1) c)
        | Greater ↦ λ p. under_pair sameS q (f e.0) (g e.1) _ _ (find-carried-put k v q es own.1)
            ∙ exchanged sameS q (f e.0) (f k) (g e.1) (g v) c (λ l a b. true≢false (sym (ap is_eq (ap (R k) (own.0 l a b) ∙ tied_itself oR k)) ∙ ap is_eq p))
      ] refl

  from-with_pair : (a : Option L) (y : Y) (c : List (L × Y)) → from_entries {R = S} (with_pair a y c) ≡ added a y (from_entries c)
  from-with_pair None y c = refl
  from-with_pair (Some l) y c = refl

  -- a put into the map is a put of its image, or nothing where the key has none
  pub carry-insert : (m : FinMap R X) (k : K) (v : X) → IsOwn f k (entries m) → carry f g S (insert m k v) ≡ added (f k) (g v) (carry f g S m)
  carry-insert m k v own = same_map oS sameS _ _ (λ q. get-from_entries oS (carried f g (entries (insert m k v))) q
      ∙ ap (λ es. find S q (carried f g es)) (entries-insert oR m k v)
      ∙ find-carried-put k v q (entries m) own
      ∙ sym (get-from_entries oS (with_pair (f k) (g v) (carried f g (entries m))) q))
      ∙ from-with_pair (f k) (g v) (carried f g (entries m))

  -- where no two keys have one image, the map of any list is carried entry by entry
  pub carry-from_entries : IsInjective f → (es : List (K × X)) → carry f g S (from_entries {R = R} es) ≡ from_entries (carried f g es)
  carry-from_entries inj [] = ap (λ es. from_entries (carried f g es)) (entries-empty oR sameR)
  carry-from_entries inj (e ∷ es) = carry-insert (from_entries es) e.0 e.1 (each (λ x. inj x.0 e.0) (entries (from_entries es)))
      ∙ ap (added (f e.0) (g e.1)) (carry-from_entries inj es)
      ∙ sym (from-with_pair (f e.0) (g e.1) (carried f g es))

-- ---- there and back
module _ {K X L Y : Type 0} (f : K → Option L) (g : X → Y) (b : L → Option K) (h : Y → X) where
  pub carried_back : (es : List (K × X)) → AllByRecursion (Returns f g b h) es → carried b h (carried f g es) ≡ es
  carried_back [] r = refl
  carried_back (e ∷ es) r =
      ap (λ a. carried b h (with_pair a (g e.1) (carried f g es))) r.0.1
      ∙ ap (λ a. with_pair a (h (g e.1)) (carried b h (carried f g es))) r.0.2
      ∙ (λ i. (e.0, r.0.3 i) ∷ carried_back es r.1 i)

  module _ {R : K → K → Ordering} {S : L → L → Ordering} (oR : IsTotalOrder R) (sameR : IsAntisymmetric R) (oS : IsTotalOrder S) (sameS : IsAntisymmetric S) where
    pub carry_back : IsInjective b → (m : FinMap R X) → AllByRecursion (Returns f g b h) (entries m) → carry b h R (carry f g S m) ≡ m
    carry_back inj m r = carry-from_entries oS sameS oR sameR b h inj (carried f g (entries m))
        ∙ ap from_entries (carried_back (entries m) r)
        ∙ from_entries-entries oR sameR m

-- ---- two functions that agree on each key
pub carried-agree : {K X L Y : Type 0} (f h : K → Option L) (g : X → Y) (es : List (K × X)) → AllByRecursion (λ e. f e.0 ≡ h e.0) es → carried f g es ≡ carried h g es
carried-agree f h g [] all = refl
carried-agree f h g (e ∷ es) all = λ i. with_pair (all.0 i) (g e.1) (carried-agree f h g es all.1 i)
