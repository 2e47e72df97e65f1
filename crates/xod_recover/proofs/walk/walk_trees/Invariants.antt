use Rattle.std.proofs.Common.{◌≡◌, drop}
use Rattle.std.specs.Prelude.{IsTrue}
use Rattle.xod_block.specs.Fetches.{Stays}
use Rattle.xod_recover.specs.Frames.{AreClean, StandInBodies, lists_body}
use Rattle.xod_recover.specs.Walks.{are_below, bad_trees}
use Rattle.xod_recover.proofs.walk.walk_trees.Given as goal

abbrev pub invariant-loop-at : goal.invariant-loop-at
invariant-loop-at g l =
    let records = g.F.Fetch.records l.initial.fetch in
    let has_body = lists_body l.numbers in
    record {
      stays : Stays g.F.Fetch.tells g.F.Fetch.records g.F.Fetch.refs g.F.Fetch.faults l.initial.fetch l.fetch;
      no_fault : g.F.Fetch.faults l.fetch ≡ g.F.Fetch.faults l.initial.fetch;
      below : are_below l.root (drop l.at-index l.trees) ≡ are_below l.root l.trees;
      clean : IsTrue (g.F.Fetch.tells l.initial.fetch) → StandInBodies records has_body → AreClean records has_body l.walked;
      left : IsTrue (g.F.Fetch.tells l.initial.fetch) → StandInBodies records has_body → bad_trees records has_body l.root (drop l.at-index l.trees) ≡ bad_trees records has_body l.root l.trees;
    }
