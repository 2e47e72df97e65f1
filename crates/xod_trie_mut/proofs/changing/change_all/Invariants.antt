use Rattle.std.specs.Prelude.{◌≡◌, Option, Some, [], take, IsTrue}
use Rattle.std.specs.Option.{option_map}
use Rattle.xod_block.specs.declared.address.Address.{Address}
use Rattle.xod_block.specs.Fetches.{Stays}
use Rattle.xod_trie.specs.Tries.{TrieMap}
use Rattle.xod_trie_mut.specs.Changes.{SetNothing, with_changes}
use Rattle.xod_trie_mut.specs.Fingers.{Extends, IsFinger, AreOnWay, AreUntouched}
use Rattle.xod_trie_mut.proofs.changing.change_all.Given as goal

abbrev pub invariant-each : goal.invariant-each
invariant-each g l = record {
  stays : Stays g.F.Fetch.tells g.F.Fetch.records g.F.Fetch.refs g.F.Fetch.faults l.initial.fetch l.fetch;
  no_fault : g.F.Fetch.faults l.fetch ≡ g.F.Fetch.faults l.initial.fetch;
  extends : Extends l.initial.own l.own;
  finger : (base root : Option Address) (map : Option TrieMap)
      → IsFinger (g.F.Fetch.tells l.initial.fetch) (g.F.Fetch.records l.initial.fetch) base root l.initial.own l.initial.finger.levels.items l.initial.finger.focus map
      → AreOnWay [] l.initial.finger.levels.items l.initial.finger.focus
      → IsFinger (g.F.Fetch.tells l.initial.fetch) (g.F.Fetch.records l.initial.fetch) base root l.own l.finger.levels.items l.finger.focus (option_map (λ m. with_changes m (take l.change-index l.changes)) map);
  on_way : (base root : Option Address) (map : Option TrieMap)
      → IsFinger (g.F.Fetch.tells l.initial.fetch) (g.F.Fetch.records l.initial.fetch) base root l.initial.own l.initial.finger.levels.items l.initial.finger.focus map
      → AreOnWay [] l.initial.finger.levels.items l.initial.finger.focus
      → AreOnWay l.last l.finger.levels.items l.finger.focus;
  untouched : (base root : Option Address) (map : TrieMap)
      → IsFinger (g.F.Fetch.tells l.initial.fetch) (g.F.Fetch.records l.initial.fetch) base root l.initial.own l.initial.finger.levels.items l.initial.finger.focus (Some map)
      → AreOnWay [] l.initial.finger.levels.items l.initial.finger.focus → IsTrue (g.F.Fetch.tells l.initial.fetch)
      → SetNothing map l.changes → AreUntouched l.initial.finger.levels.items l.initial.finger.focus
      → (l.own ≡ l.initial.own) × AreUntouched l.finger.levels.items l.finger.focus;
}
