-- What a step of a walk answers, and what is to come after it.
use Rattle.std.proofs.Common.{◌≡◌, Bool, true, false, IsTrue, List, [], ◌∷◌, drop, Option, Some, None, Ok, IfSome, slice_get, is_ok, sym, ap, ◌∙◌, true≢false}
use Rattle.std.specs.Option.{option_map}
use Rattle.std.specs.Ordering.{is_gt}
use Rattle.xod_base.specs.declared.pair.Pair.{Pair}
use Rattle.xod_base.specs.Values.{bytes_cmp}
use Rattle.xod_base.specs.Views.{Answers, Tree, Entry, least_pair, pair_of}
use Rattle.xod_range.specs.declared.range.Range.{Range}
use Rattle.xod_range.specs.Ranges.{behind, coming, onward}
use Rattle.xod_range.proofs.Walks.{coming-none, coming-behind, coming-first}

module _ (tells : Bool) (tree : Option Tree) (range : Range) where
  -- nothing is to come
  abbrev pub Ended : Type 0
  Ended = IsTrue tells → IfSome tree (λ map. coming range map ≡ [])

  -- an entry comes, and then what is above it
  abbrev pub Begins : Pair → Type 0
  Begins p = IsTrue tells → IfSome tree (λ map. coming range map ≡ (p.key, p.value) ∷ coming (behind range p.key) map)

  pub ended-none : (found : Option Pair) → Answers tells tree (least_pair (onward range.strict range.at)) (Ok found) → found ≡ None → Ended
  ended-none found a none told = by tree (a.value told)
    where
      by : (tree : Option Tree) → IfSome tree (λ map. found ≡ least_pair (onward range.strict range.at) map) → IfSome tree (λ map. coming range map ≡ [])
      by None h = tt
      by (Some map) h = coming-none range.strict range.at range.last map (sym h ∙ none)

  pub ended-behind : (found : Option Pair) (p : Pair) → Answers tells tree (least_pair (onward range.strict range.at)) (Ok found) → found ≡ Some p → is_gt (bytes_cmp p.key range.last) ≡ true → Ended
  ended-behind found p a some far told = by tree (a.value told)
    where
      by : (tree : Option Tree) → IfSome tree (λ map. found ≡ least_pair (onward range.strict range.at) map) → IfSome tree (λ map. coming range map ≡ [])
      by None h = tt
      by (Some map) h = coming-behind range.strict range.at range.last map p (sym h ∙ some) far

  pub begins : (found : Option Pair) (p : Pair) → Answers tells tree (least_pair (onward range.strict range.at)) (Ok found) → found ≡ Some p → is_gt (bytes_cmp p.key range.last) ≡ false → Begins p
  begins found p a some near told = by tree (a.value told)
    where
      by : (tree : Option Tree) → IfSome tree (λ map. found ≡ least_pair (onward range.strict range.at) map) → IfSome tree (λ map. coming range map ≡ (p.key, p.value) ∷ coming (behind range p.key) map)
      by None h = tt
      by (Some map) h = coming-first range.strict range.at range.last map p (sym h ∙ some) near

  -- ---- the clauses

  pub ended-answers : Ended → Answers {A = Option Pair} tells tree (λ map. option_map pair_of (slice_get (coming range map) 0)) (Ok None)
  ended-answers ended = record { value = λ told. by tree (ended told); damaged = λ told place e. absurd (true≢false (ap is_ok e)) }
    where
      by : (tree : Option Tree) → IfSome tree (λ map. coming range map ≡ []) → IfSome tree (λ map. None ≡ option_map pair_of (slice_get (coming range map) 0))
      by None h = tt
      by (Some map) h = sym (ap (λ (l : List Entry). option_map pair_of (slice_get l 0)) h)

  pub ended-goes_on : Ended → IsTrue tells → IfSome tree (λ map. coming range map ≡ drop 1 (coming range map))
  ended-goes_on ended told = by tree (ended told)
    where
      by : (tree : Option Tree) → IfSome tree (λ map. coming range map ≡ []) → IfSome tree (λ map. coming range map ≡ drop 1 (coming range map))
      by None h = tt
      by (Some map) h = h ∙ sym (ap (drop 1) h)

  pub begins-answers : (p : Pair) → Begins p → Answers {A = Option Pair} tells tree (λ map. option_map pair_of (slice_get (coming range map) 0)) (Ok (Some p))
  begins-answers p begun = record { value = λ told. by tree (begun told); damaged = λ told place e. absurd (true≢false (ap is_ok e)) }
    where
      by : (tree : Option Tree) → IfSome tree (λ map. coming range map ≡ (p.key, p.value) ∷ coming (behind range p.key) map) → IfSome tree (λ map. Some p ≡ option_map pair_of (slice_get (coming range map) 0))
      by None h = tt
      by (Some map) h = sym (ap (λ (l : List Entry). option_map pair_of (slice_get l 0)) h)

  pub begins-goes_on : (p : Pair) (new : Range) → Begins p → new ≡ behind range p.key → IsTrue tells → IfSome tree (λ map. coming new map ≡ drop 1 (coming range map))
  begins-goes_on p new begun is told = by tree (begun told)
    where
      by : (tree : Option Tree) → IfSome tree (λ map. coming range map ≡ (p.key, p.value) ∷ coming (behind range p.key) map) → IfSome tree (λ map. coming new map ≡ drop 1 (coming range map))
      by None h = tt
      by (Some map) h = ap (λ (r : Range). coming r map) is ∙ sym (ap (drop 1) h)
