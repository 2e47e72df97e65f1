use Rattle.std.specs.Prelude.{◌≡◌, Some, IsTrue, length}
use Rattle.xod_base.specs.Views.{Tree, KeepsView}
use Rattle.xod_overlay.specs.Merging.{merged}
use Rattle.xod_overlay.specs.Pieces.{rest_of}
use Rattle.xod_overlay.proofs.merging.least_of_both.Given as goal

abbrev pub invariant-loop-touch : goal.invariant-loop-touch
invariant-loop-touch g l = record {
  keeps : KeepsView g.T.TreeView.tells g.T.TreeView.trees g.T.TreeView.commit g.T.TreeView.refs g.T.TreeView.faults l.initial.below l.below;
  counted : g.T.TreeView.faults l.below ≡ g.T.TreeView.faults l.initial.below;
  answer : IsTrue (g.T.TreeView.tells l.initial.below) → (base : Tree) → g.T.TreeView.trees l.initial.below l.tree ≡ Some base → merged base l.found (rest_of l.rest) ≡ merged base l.initial.found (rest_of l.touches);
}

abbrev pub decreases-loop-touch : goal.decreases-loop-touch
decreases-loop-touch g l = length (rest_of l.rest)
