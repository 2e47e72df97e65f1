use Rattle.std.proofs.Common.{ap, true}
use Rattle.xod_base.specs.Views.{Trees}
use Rattle.xod_overlay.specs.Marks.{touched}
use Rattle.xod_overlay.specs.Pieces.{rest_of}
use Rattle.xod_overlay.proofs.Views.{merged-answers}
use Rattle.xod_overlay.proofs.overlaid.OverlaidTreeView.next.Goals as goal

pub returns-clause-answers : goal.returns-clause-answers
returns-clause-answers g c =
    merged-answers (touched c.args.self.now.overlay.now c.args.tree) true c.args.key.now _ _ _ _ c.next.result c.least_of_both.result c.in_ok-found.found (rest_of c.touches_from-touches.result)
    c.next.ensures.keeps.tells_same (ap (λ (trees : Trees). trees c.args.tree) c.next.ensures.keeps.trees_same) (c.in_ok-found.was {u = tt}) c.touches_from-touches.ensures
    c.next.ensures.answers c.least_of_both.ensures.answers
