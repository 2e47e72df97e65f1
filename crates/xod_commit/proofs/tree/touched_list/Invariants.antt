use Rattle.std.specs.Prelude.{◌-◌, length}
use Rattle.std.specs.FinMap.{entries}
use Rattle.xod_overlay.specs.Marks.{touched}
use Rattle.xod_commit.proofs.Walks.{IsWalked}
use Rattle.xod_commit.proofs.tree.touched_list.Given as goal

abbrev pub invariant-touches : goal.invariant-touches
invariant-touches l = IsWalked (touched l.changes l.tree) l.list.items l.next

abbrev pub decreases-touches : goal.decreases-touches
decreases-touches l = length (entries (touched l.changes l.tree)) - length l.list.items
