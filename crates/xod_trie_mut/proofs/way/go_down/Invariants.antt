use Rattle.std.specs.Prelude.{◌≡◌, ◌-◌, Option, length}
use Rattle.xod_block.specs.declared.address.Address.{Address}
use Rattle.xod_block.specs.Fetches.{Stays}
use Rattle.xod_trie.specs.Tries.{TrieMap}
use Rattle.xod_trie_mut.specs.Fingers.{IsFinger, AreOnWay, AreUntouched}
use Rattle.xod_trie_mut.proofs.way.go_down.Given as goal

abbrev pub invariant-down : goal.invariant-down
invariant-down g l = record {
  stays : Stays g.F.Fetch.tells g.F.Fetch.records g.F.Fetch.refs g.F.Fetch.faults l.initial.fetch l.fetch;
  no_fault : g.F.Fetch.faults l.fetch ≡ g.F.Fetch.faults l.initial.fetch;
  finger : (base root : Option Address) (map : Option TrieMap)
      → IsFinger (g.F.Fetch.tells l.initial.fetch) (g.F.Fetch.records l.initial.fetch) base root l.own l.initial.levels.items l.initial.focus map
      → IsFinger (g.F.Fetch.tells l.initial.fetch) (g.F.Fetch.records l.initial.fetch) base root l.own l.levels.items l.focus map;
  on_way : AreOnWay l.key l.initial.levels.items l.initial.focus → AreOnWay l.key l.levels.items l.focus;
  untouched : AreUntouched l.initial.levels.items l.initial.focus → AreUntouched l.levels.items l.focus;
}

abbrev pub decreases-down : goal.decreases-down
decreases-down g l = length l.key - l.focus.taken
