use Rattle.std.proofs.Common.{◌≡◌, ◌<◌, ℕ, List, Some, None, Option, set, ◌∙◌, ap, sym, subst, rules}
use Rattle.xod_base.specs.Views.{not_below}
use Rattle.xod_overlay.specs.Marks.{Mark, Touch}
use Rattle.xod_overlay.specs.Places.{place, stands}
use Rattle.xod_overlay.specs.Restoring.{restored}
use Rattle.xod_overlay.proofs.Restored.{mark_back, touch_out, none_there, stands_within}
use Rattle.xod_overlay.proofs.piece.Piece.restore.Goals as goal

pub returns-then-not-stands_at : goal.returns-then-not-stands_at
returns-then-not-stands_at c =
    let key = c.args.key.now in
    let at = c.place_of-at.result in
    subst (λ (es : List Touch). es ≡ restored key c.args.before es) c.self.view_is
    (none_there key c.args.before c.self.inside.touches.items at
    (c.place_of-at.ensures.place ∙ ap (place (not_below key)) c.as_slice.ensures.value)
    (sym (c.stands_at.ensures ∙ ap (λ (l : List Touch). stands key l at) c.as_slice-2.ensures.value) ∙ c.if-not-stands_at.true))

pub remove-requires : goal.remove-requires
remove-requires c =
    let at = c.place_of-at.result in
    subst (λ (n : ℕ). at < n) c.as_slice-2.ensures.len
    (stands_within c.args.key.now c.as_slice-2.result.now at (sym c.stands_at.ensures ∙ c.if-not-stands_at.false))

pub index_mut-requires : goal.index_mut-requires
index_mut-requires c =
    let at = c.place_of-at.result in
    subst (λ (n : ℕ). at < n) c.as_slice-2.ensures.len
    (stands_within c.args.key.now c.as_slice-2.result.now at (sym c.stands_at.ensures ∙ c.if-not-stands_at.false))

pub returns-in-None : goal.returns-in-None
returns-in-None c =
    let key = c.args.key.now in
    let at = c.place_of-at.result in
    let out : c.remove.new.self.items ≡ restored key c.args.before c.args.self.now =
    c.remove.ensures.items
    ∙ touch_out key c.self.inside.touches.items at
    (c.place_of-at.ensures.place ∙ ap (place (not_below key)) c.as_slice.ensures.value)
    (sym (c.stands_at.ensures ∙ ap (λ (l : List Touch). stands key l at) c.as_slice-2.ensures.value) ∙ c.if-not-stands_at.false)
    ∙ ap (restored key None) c.self.view_is
    ∙ ap (λ (before : Option Mark). restored key before c.args.self.now) (sym c.in-None.is) in
    search (rules, out)

pub returns-in-Some : goal.returns-in-Some
returns-in-Some c =
    let key = c.args.key.now in
    let at = c.place_of-at.result in
    let back : set c.self.inside.touches.items at (c.index_mut.result.now.0, c.in-Some.mark) ≡ restored key c.args.before c.args.self.now =
    mark_back key c.in-Some.mark c.self.inside.touches.items at c.index_mut.result.now
    (c.place_of-at.ensures.place ∙ ap (place (not_below key)) c.as_slice.ensures.value)
    (sym (c.stands_at.ensures ∙ ap (λ (l : List Touch). stands key l at) c.as_slice-2.ensures.value) ∙ c.if-not-stands_at.false)
    c.index_mut.ensures.value
    ∙ ap (restored key (Some c.in-Some.mark)) c.self.view_is
    ∙ ap (λ (before : Option Mark). restored key before c.args.self.now) (sym c.in-Some.is) in
    search (rules, back)
