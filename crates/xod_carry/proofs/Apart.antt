-- The keys of a map are apart, and so are those of its table.
use Rattle.std.proofs.Common.{◌≡◌, ◌≢◌, Bool, true, false, T, ◌&&◌, List, [], ◌∷◌, Option, Some, None, refl, sym, ap, subst, ◌∙◌}
use Rattle.std.specs.List.{AllByRecursion}
use Rattle.std.specs.Option.{unwrap_or}
use Rattle.std.specs.declared.cmp.Ordering.{Ordering}
use Rattle.std.specs.Ordering.{is_lt}
use Rattle.std.specs.Cmp.{IsTotalOrder, tied_itself}
use Rattle.std.specs.FinMap.{FinMap, entries, entries_sorted, is_sorted}
use Rattle.std.specs.FinMap.Entries.{below_all}
use Rattle.xod_carry.specs.Carry.{with_pair, carried}
use Rattle.xod_carry.specs.Laws.{AreApart}

parts : (a b : Bool) → T (a && b) → T a × T b
parts true b h = (tt, h)
parts false b h = absurd h

lower : {K : Type 0} {R : K → K → Ordering} → IsTotalOrder R → (k l : K) → T (is_lt (R k l)) → l ≢ k
lower {R = R} o k l h e = subst (λ r. T (is_lt r)) (ap (R k) e ∙ tied_itself o k) h

module _ {K X : Type 0} {R : K → K → Ordering} (o : IsTotalOrder R) where
  above : (k : K) (es : List (K × X)) → T (below_all R k es) → AllByRecursion (λ e. e.0 ≢ k) es
  above k [] h = tt
  above k (e ∷ es) h = let both = parts (is_lt (R k e.0)) (below_all R k es) h in (lower o k e.0 both.0, above k es both.1)

  apart_sorted : (es : List (K × X)) → T (is_sorted R es) → AreApart es
  apart_sorted [] h = tt
  apart_sorted (e ∷ es) h = let both = parts (below_all R e.0 es) (is_sorted R es) h in (above e.0 es both.0, apart_sorted es both.1)

  pub entries_apart : (m : FinMap R X) → AreApart (entries m)
  entries_apart m = apart_sorted (entries m) (entries_sorted m)

module _ {K X L Y : Type 0} (f : K → Option L) (g : X → Y) (b : L → Option K) where
  -- a key comes back from its image
  abbrev pub ComesBack : K × X → Type 0
  ComesBack e = (l : L) → f e.0 ≡ Some l → b l ≡ Some e.0

  same_key : (k j : K) → Some k ≡ Some j → k ≡ j
  same_key k j e = ap (λ o. unwrap_or o k) e

  other_images : (k : K) (l : L) → b l ≡ Some k → (es : List (K × X)) → AllByRecursion (λ e. e.0 ≢ k) es → AllByRecursion ComesBack es → AllByRecursion (λ x. x.0 ≢ l) (carried f g es)
  other_images k l is [] h c = tt
  other_images k l is (e ∷ es) h c = one (f e.0) refl (other_images k l is es h.1 c.1)
    where
      one : (a : Option L) → f e.0 ≡ a → AllByRecursion (λ x. x.0 ≢ l) (carried f g es) → AllByRecursion (λ x. x.0 ≢ l) (with_pair a (g e.1) (carried f g es))
      one None s rest = rest
      one (Some m) s rest = (λ same. h.0 (same_key e.0 k (sym (c.0 m s) ∙ ap b same ∙ is)), rest)

  pub carried_apart : (es : List (K × X)) → AreApart es → AllByRecursion ComesBack es → AreApart (carried f g es)
  carried_apart [] h c = tt
  carried_apart (e ∷ es) h c = one (f e.0) refl (carried_apart es h.1 c.1)
    where
      one : (a : Option L) → f e.0 ≡ a → AreApart (carried f g es) → AreApart (with_pair a (g e.1) (carried f g es))
      one None s rest = rest
      one (Some m) s rest = (other_images e.0 m (c.0 m s) es h.0 c.1, rest)
