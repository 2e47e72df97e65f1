use Rattle.std.specs.Prelude.{◌-◌, ◌≤◌, length}
use Rattle.xod_audit.proofs.Listing.{Numbering}
use Rattle.xod_audit.proofs.lists.have_numbers.Given as goal

abbrev pub invariant-walk : goal.invariant-walk
invariant-walk g l =
    Numbering g.T.TreeView.tells g.T.TreeView.trees g.T.TreeView.commit g.T.TreeView.refs g.T.TreeView.faults l.list l.names l.initial.view l.view l.number
    × (l.number ≤ length l.names)

abbrev pub decreases-walk : goal.decreases-walk
decreases-walk g l = length l.names - l.number
