use Rattle.std.proofs.Common.{◌≡◌, ℕ, List, Some, ◌∙◌, ap, sym, subst, insert, set}
use Rattle.std.specs.Prelude.{T}
use Rattle.std.specs.FinMap.{find, is_sorted, put}
use Rattle.xod_base.specs.Values.{bytes_cmp}
use Rattle.xod_base.specs.Views.{not_below}
use Rattle.xod_overlay.specs.Marks.{Mark, Touch}
use Rattle.xod_overlay.specs.Places.{place, stands}
use Rattle.xod_overlay.proofs.Placed.{put_there, put_new}
use Rattle.xod_overlay.proofs.Restored.{found_there, none_found}
use Rattle.xod_overlay.proofs.piece.Piece.exchange.Goals as goal

pub returns-then-stands_at-clause-touches : goal.returns-then-stands_at-clause-touches
returns-then-stands_at-clause-touches c =
    let key = c.args.key.now in
    let at = c.place_of-at.result in
    let es = c.self.inside.touches.items in
    ap (λ (mark : Mark). set es at (c.index_mut.result.now.0, mark)) c.replace-before.ensures.after
    ∙ put_there key c.args.mark es at c.index_mut.result.now
    (c.place_of-at.ensures.place ∙ ap (place (not_below key)) c.as_slice.ensures.value)
    (sym (c.stands_at.ensures ∙ ap (λ (l : List Touch). stands key l at) c.as_slice-2.ensures.value) ∙ c.if-stands_at.true)
    c.index_mut.ensures.value
    ∙ ap (put bytes_cmp key c.args.mark) c.self.view_is

pub returns-then-stands_at-clause-before : goal.returns-then-stands_at-clause-before
returns-then-stands_at-clause-before c =
    let key = c.args.key.now in
    let at = c.place_of-at.result in
    let es = c.self.inside.touches.items in
    ap Some c.replace-before.ensures.value
    ∙ found_there key es at c.index_mut.result.now
    (subst (λ (l : List Touch). T (is_sorted bytes_cmp l)) (sym c.self.view_is) c.requires)
    (c.place_of-at.ensures.place ∙ ap (place (not_below key)) c.as_slice.ensures.value)
    (sym (c.stands_at.ensures ∙ ap (λ (l : List Touch). stands key l at) c.as_slice-2.ensures.value) ∙ c.if-stands_at.true)
    c.index_mut.ensures.value
    ∙ ap (find bytes_cmp key) c.self.view_is

pub returns-clause-touches : goal.returns-clause-touches
returns-clause-touches c =
    let key = c.args.key.now in
    let at = c.place_of-at.result in
    let es = c.self.inside.touches.items in
    let key_is : c.from_vec-key.result ≡ key = c.from_vec-key.ensures ∙ c.in_ok-from_slice.ensures.items in
    c.in_ok-insert.ensures.items
    ∙ ap (λ (k : List ℕ). insert es at (k, c.args.mark)) key_is
    ∙ put_new key c.args.mark es at
    (c.place_of-at.ensures.place ∙ ap (place (not_below key)) c.as_slice.ensures.value)
    (sym (c.stands_at.ensures ∙ ap (λ (l : List Touch). stands key l at) c.as_slice-2.ensures.value) ∙ c.if-stands_at.false)
    ∙ ap (put bytes_cmp key c.args.mark) c.self.view_is

pub returns-clause-before : goal.returns-clause-before
returns-clause-before c =
    let key = c.args.key.now in
    let at = c.place_of-at.result in
    none_found key c.self.inside.touches.items at
    (subst (λ (l : List Touch). T (is_sorted bytes_cmp l)) (sym c.self.view_is) c.requires)
    (c.place_of-at.ensures.place ∙ ap (place (not_below key)) c.as_slice.ensures.value)
    (sym (c.stands_at.ensures ∙ ap (λ (l : List Touch). stands key l at) c.as_slice-2.ensures.value) ∙ c.if-stands_at.false)
    ∙ ap (find bytes_cmp key) c.self.view_is
