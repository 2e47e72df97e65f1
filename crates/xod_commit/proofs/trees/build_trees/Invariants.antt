use Rattle.std.specs.Prelude.{◌≡◌, ◌≤◌}
use Rattle.xod_block.specs.Fetches.{Stays}
use Rattle.xod_overlay.specs.Marks.{touched}
use Rattle.xod_commit.specs.Trees.{AreBuilt}
use Rattle.xod_commit.proofs.trees.build_trees.Given as goal

abbrev pub invariant-trees : goal.invariant-trees
invariant-trees g l = record {
  stays : Stays g.F.Fetch.tells g.F.Fetch.records g.F.Fetch.refs g.F.Fetch.faults l.initial.fetch l.fetch;
  no_fault : g.F.Fetch.faults l.fetch ≡ g.F.Fetch.faults l.initial.fetch;
  first : 1 ≤ l.tree;
  last : l.tree ≤ 9;
  built : AreBuilt l.at (g.F.Fetch.tells l.initial.fetch) (g.F.Fetch.records l.initial.fetch) (touched l.changes) l.roots l.tree l.building;
}
