use Rattle.std.proofs.Common.{◌≡◌, List, ap, subst, ◌∙◌, arith}
use Rattle.xod_overlay.specs.Marks.{TouchMap, touched}
use Rattle.xod_overlay.specs.Restoring.{restoring}
use Rattle.xod_overlay.proofs.Taken.{past_restore, touched-restore}
use Rattle.xod_overlay.proofs.overlay.Overlay.restore.Goals as goal

pub returns-then-len-tree : goal.returns-then-len-tree
returns-then-len-tree c =
    subst (λ (trees : List TouchMap). touched trees ≡ restoring (touched trees) c.args.tree c.args.key.now c.args.before) c.self.view_is
    (past_restore c.self.inside.trees.items c.args.tree c.args.key.now c.args.before (omega (arith, c.self.inside.trees.ok.0)))

pub returns : goal.returns
returns c =
    touched-restore c.self.inside.trees.items c.args.tree c.args.key.now c.args.before c.index_mut.result.now c.restore.new.self
    (omega (arith, c.self.inside.trees.ok.0)) c.index_mut.ensures.value c.restore.ensures
    ∙ ap (λ (trees : List TouchMap). restoring (touched trees) c.args.tree c.args.key.now c.args.before) c.self.view_is
