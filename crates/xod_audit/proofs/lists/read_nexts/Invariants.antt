use Rattle.std.specs.Prelude.{◌-◌, ◌≤◌}
use Rattle.xod_tables.specs.Reading.{tree_at}
use Rattle.xod_tables.specs.declared.trees.TheConstants.{NEXT}
use Rattle.xod_audit.specs.Tests.{nexts_from}
use Rattle.xod_audit.proofs.Listing.{Listing}
use Rattle.xod_audit.proofs.lists.read_nexts.Given as goal

abbrev pub invariant-walk : goal.invariant-walk
invariant-walk g l =
    Listing g.T.TreeView.tells g.T.TreeView.trees g.T.TreeView.commit g.T.TreeView.refs g.T.TreeView.faults (λ ts. nexts_from (tree_at ts NEXT) l.count 0)
    (λ ts. nexts_from (tree_at ts NEXT) (l.count - l.kind) l.kind) l.initial.view l.view l.nexts
    × (l.kind ≤ l.count)

abbrev pub decreases-walk : goal.decreases-walk
decreases-walk g l = l.count - l.kind
