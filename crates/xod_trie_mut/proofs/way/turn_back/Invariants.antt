use Rattle.std.specs.Prelude.{◌≡◌, Option, length}
use Rattle.xod_block.specs.declared.address.Address.{Address}
use Rattle.xod_block.specs.Fetches.{Stays}
use Rattle.xod_trie.specs.Tries.{TrieMap}
use Rattle.xod_trie_mut.specs.Fingers.{Extends, IsFinger, AreUntouched}
use Rattle.xod_trie_mut.proofs.way.turn_back.Given as goal

abbrev pub invariant-up : goal.invariant-up
invariant-up g l = record {
  stays : Stays g.F.Fetch.tells g.F.Fetch.records g.F.Fetch.refs g.F.Fetch.faults l.initial.fetch l.fetch;
  no_fault : g.F.Fetch.faults l.fetch ≡ g.F.Fetch.faults l.initial.fetch;
  extends : Extends l.initial.own l.own;
  front : Extends l.levels.items l.initial.levels.items;
  finger : (base root : Option Address) (map : Option TrieMap)
      → IsFinger (g.F.Fetch.tells l.initial.fetch) (g.F.Fetch.records l.initial.fetch) base root l.initial.own l.initial.levels.items l.initial.focus map
      → IsFinger (g.F.Fetch.tells l.initial.fetch) (g.F.Fetch.records l.initial.fetch) base root l.own l.levels.items l.focus map;
  untouched : AreUntouched l.initial.levels.items l.initial.focus → (l.own ≡ l.initial.own) × AreUntouched l.levels.items l.focus;
}

abbrev pub decreases-up : goal.decreases-up
decreases-up g l = length l.levels.items
