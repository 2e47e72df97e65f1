use Rattle.std.specs.Prelude.{◌≡◌, Some, IsSome, IsTrue}
use Rattle.xod_block.specs.Addresses.{number_of}
use Rattle.xod_block.specs.Fetches.{Stays}
use Rattle.xod_block.specs.Maps.{map_at}
use Rattle.xod_trie.specs.Damage.{IsReached}
use Rattle.xod_trie.specs.Ways.{LeadsTo}
use Rattle.xod_trie.proofs.look.find_under.Given as goal

abbrev pub invariant-down : goal.invariant-down
invariant-down g l = record {
  stays : Stays g.F.Fetch.tells g.F.Fetch.records g.F.Fetch.refs g.F.Fetch.faults l.initial.fetch l.fetch;
  no_fault : g.F.Fetch.faults l.fetch ≡ g.F.Fetch.faults l.initial.fetch;
  reached : IsTrue (g.F.Fetch.tells l.initial.fetch) → IsReached (g.F.Fetch.records l.initial.fetch) (Some l.initial.at) l.at;
  leads : IsTrue (g.F.Fetch.tells l.initial.fetch) → IsSome (map_at (g.F.Fetch.records l.initial.fetch) (number_of l.initial.at)) → LeadsTo (g.F.Fetch.records l.initial.fetch) (number_of l.initial.at) l.key (number_of l.at) l.rest;
}

abbrev pub decreases-down : goal.decreases-down
decreases-down g l = number_of l.at
