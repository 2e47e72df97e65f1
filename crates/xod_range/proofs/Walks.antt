-- What a walk is still to give, by the least entry from its key on.
use Rattle.std.proofs.Common.{◌≡◌, ℕ, Bool, true, false, not, ◌&&◌, cond, List, [], ◌∷◌, Option, Some, None, refl, sym, ap, ◌∙◌, true≢false}
use Rattle.std.specs.declared.cmp.Ordering.{Ordering}
use Rattle.std.specs.declared.cmp.Ordering.TheVariants.{Less, Equal, Greater}
use Rattle.std.specs.Cmp.{IsTotalOrder}
use Rattle.std.specs.Cmp.Lexicographic.{nat_list_cmp_total}
use Rattle.std.specs.FinMap.{entries}
use Rattle.std.specs.List.{filter}
use Rattle.std.specs.Option.{option_map}
use Rattle.std.specs.Ordering.{is_lt, is_le, is_gt, ordering_reverse}
use Rattle.xod_base.specs.declared.pair.Pair.{Pair}
use Rattle.xod_base.specs.Values.{bytes_cmp, is_within}
use Rattle.xod_base.specs.Views.{Tree, Entry, Test, least, least_pair, pair_of, not_below, above, those_that}
use Rattle.xod_base.proofs.CallerLemmas.{those_that-none, those_that-not_below, those_that-above}
use Rattle.xod_range.specs.Ranges.{onward, is_ahead, in_range}

order : IsTotalOrder bytes_cmp
order = nat_list_cmp_total

-- ---- entries by two tests

abbrev kept : Test → List Entry → List Entry
kept p es = filter (λ e. p e.0) es

-- the keys that do not come behind the last one
abbrev up_to : List ℕ → Test
up_to last key = not (is_gt (bytes_cmp key last))

kept-same : (p q : Test) → ((k : List ℕ) → p k ≡ q k) → (es : List Entry) → kept p es ≡ kept q es
kept-same p q same [] = refl
kept-same p q same (e ∷ es) = ap (λ (b : Bool). cond b (e ∷ kept p es) (kept p es)) (same e.0) ∙ ap (λ (l : List Entry). cond (q e.0) (e ∷ l) l) (kept-same p q same es)

kept-none : (p : Test) → ((k : List ℕ) → p k ≡ false) → (es : List Entry) → kept p es ≡ []
kept-none p fails [] = refl
kept-none p fails (e ∷ es) = ap (λ (b : Bool). cond b (e ∷ kept p es) (kept p es)) (fails e.0) ∙ kept-none p fails es

both_at : (a b : Bool) (e : Entry) (r : Test) (l : List Entry) → r e.0 ≡ b → cond (a && b) (e ∷ kept r l) (kept r l) ≡ kept r (cond a (e ∷ l) l)
both_at true b e r l is = ap (λ (c : Bool). cond c (e ∷ kept r l) (kept r l)) (sym is)
both_at false b e r l is = refl

kept-both : (q r : Test) (es : List Entry) → kept (λ k. q k && r k) es ≡ kept r (kept q es)
kept-both q r [] = refl
kept-both q r (e ∷ es) = ap (λ (l : List Entry). cond (q e.0 && r e.0) (e ∷ l) l) (kept-both q r es) ∙ both_at (q e.0) (r e.0) e r (kept q es) refl

-- ---- behind the last key

below_last : (k e last : List ℕ) (o : Ordering) → bytes_cmp e k ≡ o → is_gt (bytes_cmp e last) ≡ true → is_lt o && up_to last k ≡ false
below_last k e last Less less behind =
    let over : bytes_cmp last e ≡ Less = order.antisymm last e ∙ ap ordering_reverse (is_greater (bytes_cmp e last) behind) in
    let far : bytes_cmp k last ≡ Greater = order.antisymm k last ∙ ap ordering_reverse (order.trans last e k over less) in
    ap (λ (r : Ordering). not (is_gt r)) far
  where
    is_greater : (r : Ordering) → is_gt r ≡ true → r ≡ Greater
    is_greater Less h = absurd (true≢false (sym h))
    is_greater Equal h = absurd (true≢false (sym h))
    is_greater Greater h = refl
below_last k e last Equal less behind = refl
below_last k e last Greater less behind = refl

-- ---- what is to come

ahead_both : (strict : Bool) (at last : List ℕ) (t : Tree) → those_that (is_ahead strict at last) t ≡ kept (up_to last) (those_that (onward strict at) t)
ahead_both true at last t = kept-both (above at) (up_to last) (entries t)
ahead_both false at last t = kept-both (not_below at) (up_to last) (entries t)

onward_first : (strict : Bool) (at : List ℕ) (t : Tree) (e : Entry) → least (onward strict at) t ≡ Some e → those_that (onward strict at) t ≡ e ∷ those_that (above e.0) t
onward_first true at t e is = those_that-above at t e is
onward_first false at t e is = those_that-not_below at t e is

at_first : (strict : Bool) (at last : List ℕ) (t : Tree) (e : Entry) → least (onward strict at) t ≡ Some e → those_that (is_ahead strict at last) t ≡ kept (up_to last) (e ∷ those_that (above e.0) t)
at_first strict at last t e is = ahead_both strict at last t ∙ ap (kept (up_to last)) (onward_first strict at t e is)

behind_first : (e : Entry) (last : List ℕ) (t : Tree) → kept (up_to last) (those_that (above e.0) t) ≡ those_that (is_ahead true e.0 last) t
behind_first e last t = sym (ahead_both true e.0 last t)

as_entry : (o : Option Entry) (p : Pair) → option_map pair_of o ≡ Some p → o ≡ Some (p.key, p.value)
as_entry None p is = cc is
as_entry (Some e) p is = ap (option_map (λ (q : Pair). (q.key, q.value))) is

-- nothing is found: nothing is to come
pub coming-none : (strict : Bool) (at last : List ℕ) (t : Tree) → least_pair (onward strict at) t ≡ None → those_that (is_ahead strict at last) t ≡ []
coming-none strict at last t is = ahead_both strict at last t ∙ ap (kept (up_to last)) (those_that-none (onward strict at) t (no_entry (least (onward strict at) t) is))
  where
    no_entry : (o : Option Entry) → option_map pair_of o ≡ None → o ≡ None
    no_entry None is = refl
    no_entry (Some e) is = cc is

-- what is found lies behind the last key: nothing is to come
pub coming-behind : (strict : Bool) (at last : List ℕ) (t : Tree) (p : Pair) → least_pair (onward strict at) t ≡ Some p → is_gt (bytes_cmp p.key last) ≡ true → those_that (is_ahead strict at last) t ≡ []
coming-behind strict at last t p is behind =
    at_first strict at last t (p.key, p.value) (as_entry (least (onward strict at) t) p is)
    ∙ ap (λ (b : Bool). cond (not b) ((p.key, p.value) ∷ kept (up_to last) (those_that (above p.key) t)) (kept (up_to last) (those_that (above p.key) t))) behind
    ∙ behind_first (p.key, p.value) last t
    ∙ kept-none (is_ahead true p.key last) (λ k. below_last k p.key last (bytes_cmp p.key k) refl behind) (entries t)

-- else it comes first, and then what is above it
pub coming-first : (strict : Bool) (at last : List ℕ) (t : Tree) (p : Pair) → least_pair (onward strict at) t ≡ Some p → is_gt (bytes_cmp p.key last) ≡ false → those_that (is_ahead strict at last) t ≡ (p.key, p.value) ∷ those_that (is_ahead true p.key last) t
coming-first strict at last t p is within =
    at_first strict at last t (p.key, p.value) (as_entry (least (onward strict at) t) p is)
    ∙ ap (λ (b : Bool). cond (not b) ((p.key, p.value) ∷ kept (up_to last) (those_that (above p.key) t)) (kept (up_to last) (those_that (above p.key) t))) within
    ∙ ap (λ (l : List Entry). (p.key, p.value) ∷ l) (behind_first (p.key, p.value) last t)

-- at the beginning the whole range is to come
pub coming-all : (low high : List ℕ) (t : Tree) → those_that (is_ahead false low high) t ≡ in_range low high t
coming-all low high t = kept-same (is_ahead false low high) (is_within low high) (λ k. ap (λ (b : Bool). b && up_to high k) (not_greater (bytes_cmp low k))) (entries t)
  where
    not_greater : (r : Ordering) → is_le r ≡ not (is_gt r)
    not_greater Less = refl
    not_greater Equal = refl
    not_greater Greater = refl
