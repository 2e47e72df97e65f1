use Rattle.std.specs.Prelude.{◌-◌}
use Rattle.xod_names.proofs.Halving.{Halved}
use Rattle.xod_names.proofs.reading.count.Given as goal

abbrev pub invariant-halving : goal.invariant-halving
invariant-halving g l =
    Halved g.T.TreeView.tells g.T.TreeView.trees g.T.TreeView.commit g.T.TreeView.refs g.T.TreeView.faults l.list l.initial.view l.view l.low l.high

abbrev pub decreases-halving : goal.decreases-halving
decreases-halving g l = l.high - l.low
