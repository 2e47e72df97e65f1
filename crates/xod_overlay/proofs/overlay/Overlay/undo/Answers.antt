use Rattle.std.proofs.Common.{ℕ, List, ap, sym, ◌∙◌, arith}
use Rattle.xod_overlay.specs.Marks.{TouchMap, touched}
use Rattle.xod_overlay.specs.Restoring.{restoring, undone}
use Rattle.xod_overlay.proofs.Taken.{no_items, undone-nil, undone-last}
use Rattle.xod_overlay.proofs.overlay.Overlay.undo.Goals as goal

pub back-preserved : goal.back-preserved
back-preserved c =
    let undo = c.in-Some.field-0 in
    let now = touched c.back.self in
    ap (λ (f : ℕ → TouchMap). undone f c.pop.new.self.items) (c.restore.ensures ∙ ap (λ (key : List ℕ). restoring now undo.tree key undo.before) c.as_slice.ensures)
    ∙ sym (undone-last now c.pop.new.self.items undo)
    ∙ ap (undone now) (sym (c.in-Some.ensures {u = tt}).items)
    ∙ c.back.invariant

pub returns : goal.returns
returns c =
    sym (undone-nil (touched c.back.self))
    ∙ ap (undone (touched c.back.self)) (sym (no_items c.back.left.items (omega (arith, c.back.left.ok.0, (c.in_default.ensures {u = tt}).cases.0))))
    ∙ c.back.invariant
