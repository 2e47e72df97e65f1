use Rattle.std.proofs.Common.{ℕ, List, [], ◌∷◌, ◌++◌, ap, ◌∙◌}
use Rattle.std.specs.FinMap.{get}
use Rattle.xod_overlay.specs.declared.writing.Undo.{Undo}
use Rattle.xod_overlay.specs.Marks.{touched, touching}
use Rattle.xod_overlay.specs.Restoring.{undone}
use Rattle.xod_overlay.proofs.Taken.{undone-write}
use Rattle.xod_overlay.proofs.overlay.Overlay.write.Goals as goal

pub returns-clause-undone : goal.returns-clause-undone
returns-clause-undone c =
    let write = c.args.write in
    let now = touched c.args.self.now in
    let undo : Undo = record { tree = write.tree; key = write.key; before = c.in_ok-before.before } in
    let done = c.in_ok-before.ensures {u = tt} in
    ap (undone (touched c.exchange.new.self)) ((c.in_ok-push.ensures {u = tt}).items ∙ ap (λ (l : List Undo). l ++ undo ∷ []) c.reserve.ensures.items)
    ∙ undone-write now (touched c.exchange.new.self) c.args.made.now.items undo write.value
    (done.touches ∙ ap (λ (key : List ℕ). touching now write.tree key write.value) c.as_slice.ensures)
    (done.before ∙ ap (get (now write.tree)) c.as_slice.ensures)
