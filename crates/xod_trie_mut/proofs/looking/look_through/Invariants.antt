use Rattle.std.proofs.Common.{◌≡◌, length, Option}
use Rattle.std.specs.Prelude.{IsSome, IsTrue}
use Rattle.std.specs.List.{AllByRecursion}
use Rattle.xod_block.specs.declared.address.Address.{Address}
use Rattle.xod_block.specs.Addresses.{number_of}
use Rattle.xod_block.specs.Fetches.{Stays}
use Rattle.xod_block.specs.Maps.{map_at}
use Rattle.xod_trie_mut.specs.Own.{AreOwn, IsLower, with_own}
use Rattle.xod_trie_mut.proofs.LookLemmas.{weights}
use Rattle.xod_trie_mut.proofs.looking.look_through.Given as goal

abbrev pub invariant-through : goal.invariant-through
invariant-through g l = record {
  stays : Stays g.F.Fetch.tells g.F.Fetch.records g.F.Fetch.refs g.F.Fetch.faults l.initial.fetch l.fetch;
  no_fault : g.F.Fetch.faults l.fetch ≡ g.F.Fetch.faults l.initial.fetch;
  lower : (base : Option Address) → AreOwn base l.own → IsLower base (length l.own) l.fn.root → AllByRecursion (λ at. IsLower base (length l.own) at) l.waiting.items;
  whole : (base : Option Address) → AreOwn base l.own → IsLower base (length l.own) l.fn.root → IsTrue (g.F.Fetch.tells l.initial.fetch)
      → AllByRecursion (λ at. IsSome (map_at (with_own l.own (g.F.Fetch.records l.initial.fetch)) (number_of at))) l.waiting.items
      → IsSome (map_at (with_own l.own (g.F.Fetch.records l.initial.fetch)) (number_of l.fn.root));
  maps : (base : Option Address) → AreOwn base l.own → IsLower base (length l.own) l.fn.root → IsTrue (g.F.Fetch.tells l.initial.fetch)
      → IsSome (map_at (with_own l.own (g.F.Fetch.records l.initial.fetch)) (number_of l.fn.root))
      → AllByRecursion (λ at. IsSome (map_at (with_own l.own (g.F.Fetch.records l.initial.fetch)) (number_of at))) l.waiting.items;
}

abbrev pub decreases-through : goal.decreases-through
decreases-through g l = weights l.waiting.items
