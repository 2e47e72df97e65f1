use Rattle.std.proofs.Common.{◌≡◌, drop}
use Rattle.xod_recover.specs.Check.{are_trees}
use Rattle.xod_recover.proofs.root.are_trees.Given as goal

abbrev pub invariant-loop-tree : goal.invariant-loop-tree
invariant-loop-tree l = are_trees (drop l.tree-index l.links) ≡ are_trees l.links
