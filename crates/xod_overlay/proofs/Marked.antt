-- What a tree with touched keys has at each key.
use Rattle.std.proofs.Common.{◌≡◌, ℕ, Bool, true, false, cond, List, [], ◌∷◌, Option, Some, None, refl, sym, ap, ◌∙◌}
use Rattle.std.specs.Option.{unwrap_or}
use Rattle.std.specs.Ordering.{eq_by_cmp}
use Rattle.std.specs.Cmp.{IsTotalOrder}
use Rattle.std.specs.Cmp.Lexicographic.{nat_list_cmp_total}
use Rattle.std.specs.FinMap.{empty, entries, find, get, get-entries, get-empty, get-insert, get-remove, insert, same_map, IsAntisymmetric, nat_cmp-IsAntisymmetric, slice_cmp-IsAntisymmetric}
use Rattle.xod_base.specs.Values.{bytes_cmp}
use Rattle.xod_base.specs.Views.{Tree}
use Rattle.xod_overlay.specs.Marks.{Mark, Touch, TouchMap, with_mark, with_marks, overlaid}
use Rattle.xod_overlay.specs.Laws.{TouchedKeysDecide, UntouchedIsBelow, PutsShow, RemovalsShow}

pub order : IsTotalOrder bytes_cmp
order = nat_list_cmp_total

pub same_keys : IsAntisymmetric bytes_cmp
same_keys = slice_cmp-IsAntisymmetric nat_cmp-IsAntisymmetric

get-with_mark : (tree : Tree) (key : List ℕ) (mark : Mark) (q : List ℕ) → get (with_mark tree key mark) q ≡ cond (eq_by_cmp bytes_cmp q key) mark (get tree q)
get-with_mark tree key None q = get-remove order tree key q
get-with_mark tree key (Some value) q = get-insert order tree key value q

-- a mark that decides, decides
decided : (b : Bool) (mark : Mark) (others : Option Mark) (below : Mark) → unwrap_or (cond b (Some mark) others) below ≡ cond b mark (unwrap_or others below)
decided true mark others below = refl
decided false mark others below = refl

get-with_marks : (base : Tree) (touches : List Touch) (q : List ℕ) → get (with_marks base touches) q ≡ unwrap_or (find bytes_cmp q touches) (get base q)
get-with_marks base [] q = refl
get-with_marks base (touch ∷ touches) q =
    get-with_mark (with_marks base touches) touch.0 touch.1 q
    ∙ ap (cond (eq_by_cmp bytes_cmp q touch.0) touch.1) (get-with_marks base touches q)
    ∙ sym (decided (eq_by_cmp bytes_cmp q touch.0) touch.1 (find bytes_cmp q touches) (get base q))

pub touched_decide : TouchedKeysDecide
unfolding overlaid
touched_decide base touches q = get-with_marks base (entries touches) q ∙ ap (λ (o : Option Mark). unwrap_or o (get base q)) (sym (get-entries touches q))

pub untouched_below : UntouchedIsBelow
untouched_below base = same_map order same_keys _ _ (λ q. touched_decide base empty q ∙ ap (λ (o : Option Mark). unwrap_or o (get base q)) (get-empty bytes_cmp q))

-- what one touch more shows at each key
touch_more : (base : Tree) (touches : TouchMap) (key : List ℕ) (mark : Mark) (q : List ℕ) → get (overlaid base (insert touches key mark)) q ≡ get (with_mark (overlaid base touches) key mark) q
touch_more base touches key mark q =
    touched_decide base (insert touches key mark) q
    ∙ ap (λ (o : Option Mark). unwrap_or o (get base q)) (get-insert order touches key mark q)
    ∙ decided (eq_by_cmp bytes_cmp q key) mark (get touches q) (get base q)
    ∙ ap (cond (eq_by_cmp bytes_cmp q key) mark) (sym (touched_decide base touches q))
    ∙ sym (get-with_mark (overlaid base touches) key mark q)

pub puts_are_seen : PutsShow
puts_are_seen base touches key value = same_map order same_keys _ _ (touch_more base touches key (Some value))

pub removals_are_seen : RemovalsShow
removals_are_seen base touches key = same_map order same_keys _ _ (touch_more base touches key None)
