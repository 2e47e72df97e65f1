-- A walk from touch to touch.
use Rattle.std.proofs.Common.{◌≡◌, ℕ, Bool, false, cond, List, [], ◌∷◌, ◌++◌, Some, slice_get, refl, sym, ap, ◌∙◌, subst}
use Rattle.std.specs.Prelude.{T}
use Rattle.std.specs.declared.cmp.Ordering.{Ordering}
use Rattle.std.specs.declared.cmp.Ordering.TheVariants.{Less, Equal, Greater}
use Rattle.std.specs.FinMap.{entries, entries_sorted, is_sorted}
use Rattle.std.specs.FinMap.Entries.{below_all}
use Rattle.std.specs.Ordering.{is_lt, ordering_reverse}
use Rattle.xod_base.specs.Values.{bytes_cmp}
use Rattle.xod_base.specs.Views.{above}
use Rattle.xod_overlay.specs.Laws.{WalksBegin, WalksGoOn}
use Rattle.xod_overlay.specs.Marks.{Touch, first_touch}
use Rattle.xod_overlay.proofs.Marked.{order}
use Rattle.xod_overlay.proofs.Placed.{first, second, lesser, first_of_all}

-- a touch that stands below all of a list stands below each of it
pub below_one : (x : List ℕ) (before behind : List Touch) (touch : Touch) → T (below_all bytes_cmp x (before ++ touch ∷ behind)) → bytes_cmp x touch.0 ≡ Less
below_one x [] behind touch h = lesser _ (first _ _ h)
below_one x (e ∷ before) behind touch h = below_one x before behind touch (second _ _ h)

not_less : (r : Ordering) → r ≡ ordering_reverse r → r ≡ Equal
not_less Less e = cc e
not_less Equal e = refl
not_less Greater e = cc e

reflexive : (key : List ℕ) → bytes_cmp key key ≡ Equal
reflexive key = not_less (bytes_cmp key key) (order.antisymm key key)

not_above : (key other : List ℕ) → bytes_cmp other key ≡ Less → above key other ≡ false
not_above key other less = ap is_lt (order.antisymm key other ∙ ap ordering_reverse less)

not_itself : (key : List ℕ) → above key key ≡ false
not_itself key = ap is_lt (reflexive key)

first_above : (key : List ℕ) (behind : List Touch) → T (below_all bytes_cmp key behind) → first_touch (above key) behind ≡ slice_get behind 0
first_above key [] h = refl
first_above key (e ∷ behind) h = ap (λ (r : Ordering). cond (is_lt r) (Some e) (first_touch (above key) behind)) (lesser _ (first _ _ h))

next_of : (before behind : List Touch) (touch : Touch) → T (is_sorted bytes_cmp (before ++ touch ∷ behind)) → first_touch (above touch.0) (before ++ touch ∷ behind) ≡ slice_get behind 0
next_of [] behind touch h =
    ap (λ (b : Bool). cond b (Some touch) (first_touch (above touch.0) behind)) (not_itself touch.0)
    ∙ first_above touch.0 behind (first _ _ h)
next_of (e ∷ before) behind touch h =
    ap (λ (b : Bool). cond b (Some e) (first_touch (above touch.0) (before ++ touch ∷ behind))) (not_above touch.0 e.0 (below_one e.0 before behind touch (first _ _ h)))
    ∙ next_of before behind touch (second _ _ h)

pub walks_begin : WalksBegin
walks_begin touches = sym (first_of_all (entries touches))

pub walks_go_on : WalksGoOn
walks_go_on touches before behind touch is =
    ap (first_touch (above touch.0)) is
    ∙ next_of before behind touch (subst (λ (es : List Touch). T (is_sorted bytes_cmp es)) is (entries_sorted touches))
