use Rattle.std.proofs.Common.{◌≡◌, ◌++◌, ◌≤◌, ◌-◌, take, drop, length, Option}
use Rattle.xod_block.specs.declared.address.Address.{Address}
use Rattle.xod_trie_mut.specs.Links.{set_link}
use Rattle.xod_trie_mut.proofs.own_branch.children_before.Given as goal

abbrev pub invariant-ahead : goal.invariant-ahead
invariant-ahead l = record {
  within : l.index ≤ length l.children;
  set : (at : Option Address) → set_link l.byte at l.children ≡ take l.index l.children ++ set_link l.byte at (drop l.index l.children);
}

abbrev pub decreases-ahead : goal.decreases-ahead
decreases-ahead l = length l.children - l.index
