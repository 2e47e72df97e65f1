-- A walk from touch to touch, which puts each into a list.
use Rattle.std.proofs.Common.{◌≡◌, ◌<◌, ◌≤◌, ℕ, zero, suc, ◌+◌, List, [], ◌∷◌, ◌++◌, length, length-append, drop, take, Option, Some, None, slice_get, refl, sym, ap, ◌∙◌, arith}
use Rattle.std.specs.Prelude.{map}
use Rattle.std.specs.Option.{option_map}
use Rattle.std.specs.FinMap.{entries}
use Rattle.std.proofs.lemmas.List.{map-append, take_all}
use Rattle.std.proofs.lemmas.Option.{slice_get_within}
use Rattle.xod_overlay.specs.Laws.{WalksBegin, WalksGoOn}
use Rattle.xod_overlay.specs.declared.overlay.Touched.{Touched}
use Rattle.xod_overlay.specs.Marks.{Touch, TouchMap, above_any, least_touch, touch_of}
use Rattle.xod_trie.proofs.CallerLemmas.{take_one_more}
use Rattle.xod_trie_mut.specs.declared.change.Change.{Change}
use Rattle.xod_commit.specs.Trees.{touch_by}

split : (es : List Touch) (n : ℕ) (t : Touch) → slice_get es n ≡ Some t → es ≡ take n es ++ t ∷ drop (suc n) es
split [] n t e = absurd cc
split (x ∷ es) zero t e = let is : x ≡ t = cc e in ap (λ (y : Touch). y ∷ es) is
split (x ∷ es) (suc n) t e = ap (λ (l : List Touch). x ∷ l) (split es n t e)

drop-get : (es : List Touch) (n : ℕ) → slice_get (drop n es) 0 ≡ slice_get es n
drop-get [] zero = refl
drop-get [] (suc n) = refl
drop-get (x ∷ es) zero = refl
drop-get (x ∷ es) (suc n) = drop-get es n

pub record IsWalked (touches : TouchMap) (list : List Change) (next : Option Touched) : Type 0 where
  pub so_far : map touch_by list ≡ take (length list) (entries touches)
  pub next_is : option_map touch_of next ≡ slice_get (entries touches) (length list)

pub walk-begins : WalksBegin → (touches : TouchMap) (next : Option Touched) → option_map touch_of next ≡ least_touch (above_any None) touches → IsWalked touches [] next
walk-begins begin touches next is = record { so_far = refl; next_is = is ∙ begin touches }

pub walk-within : (touches : TouchMap) (list : List Change) (touch : Touched) → IsWalked touches list (Some touch) → length list < length (entries touches)
walk-within touches list touch w = slice_get_within (entries touches) (length list) (touch_of touch) (sym w.next_is)

pub walk-goes_on : WalksGoOn → (touches : TouchMap) (list : List Change) (touch : Touched) (change : Change) (next : Option Touched) → IsWalked touches list (Some touch) → touch_by change ≡ touch_of touch → option_map touch_of next ≡ least_touch (above_any (Some touch.key.now)) touches → IsWalked touches (list ++ change ∷ []) next
walk-goes_on go_on touches list touch change next w same is =
    let es = entries touches in
    let n = length list in
    let longer : length (list ++ change ∷ []) ≡ n + 1 = length-append list (change ∷ []) in
    let one_more : n + 1 ≡ suc n = omega arith in
    let here : slice_get es n ≡ Some (touch_of touch) = sym w.next_is in
    record {
      so_far = map-append touch_by list (change ∷ [])
          ∙ ap (λ (l : List Touch). l ++ touch_by change ∷ []) w.so_far
          ∙ ap (λ (t : Touch). take n es ++ t ∷ []) same
          ∙ sym (take_one_more es n (touch_of touch) here)
          ∙ ap (λ (k : ℕ). take k es) (sym longer);
      next_is = is
          ∙ go_on touches (take n es) (drop (suc n) es) (touch_of touch) (split es n (touch_of touch) here)
          ∙ drop-get es (suc n)
          ∙ ap (slice_get es) (sym (longer ∙ one_more));
    }

get-past : (es : List Touch) (n : ℕ) → slice_get es n ≡ None → length es ≤ n
get-past [] n e = omega arith
get-past (x ∷ es) zero e = absurd cc
get-past (x ∷ es) (suc n) e = let rest = get-past es n e in omega (arith, rest)

pub walk-ends : (touches : TouchMap) (list : List Change) → IsWalked touches list None → map touch_by list ≡ entries touches
walk-ends touches list w = w.so_far ∙ take_all (length list) (entries touches) (get-past (entries touches) (length list) (sym w.next_is))
