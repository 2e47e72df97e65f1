use Rattle.std.specs.Prelude.{◌-◌, ◌^◌}
use Rattle.xod_audit.specs.Checks.{test_of}
use Rattle.xod_audit.proofs.Counting.{Counting}
use Rattle.xod_audit.proofs.count.count_passing.Given as goal

abbrev pub invariant-walk : goal.invariant-walk
invariant-walk g l =
    Counting g.T.TreeView.tells g.T.TreeView.trees g.T.TreeView.commit g.T.TreeView.refs g.T.TreeView.faults l.tree (test_of l.check) l.initial.view l.view l.found l.count

abbrev pub decreases-walk : goal.decreases-walk
decreases-walk g l = 2 ^ 64 - l.count
