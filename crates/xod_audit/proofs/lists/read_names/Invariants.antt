use Rattle.std.specs.Prelude.{◌-◌, ◌≤◌, length}
use Rattle.xod_tables.specs.Reading.{tree_at}
use Rattle.xod_tables.specs.declared.trees.TheConstants.{NAMES}
use Rattle.xod_audit.specs.Checks.{names_that}
use Rattle.xod_audit.specs.Tests.{names_from, names_listed}
use Rattle.xod_audit.proofs.Listing.{Listing}
use Rattle.xod_audit.proofs.lists.read_names.Given as goal

abbrev pub invariant-walk : goal.invariant-walk
invariant-walk g l =
    Listing g.T.TreeView.tells g.T.TreeView.trees g.T.TreeView.commit g.T.TreeView.refs g.T.TreeView.faults (λ ts. names_that (names_listed l.list (tree_at ts NAMES)))
    (λ ts. names_that (names_from (tree_at ts NAMES) l.list (4096 - l.number) l.number)) l.initial.view l.view l.names
    × (length l.names ≤ l.number) × (l.number ≤ 4096)

abbrev pub decreases-walk : goal.decreases-walk
decreases-walk g l = 4096 - l.number
