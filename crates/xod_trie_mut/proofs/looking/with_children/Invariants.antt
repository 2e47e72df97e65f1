use Rattle.std.proofs.Common.{◌≡◌, ◌++◌, ◌<◌, take, map}
use Rattle.std.specs.List.{AllByRecursion}
use Rattle.xod_block.specs.Addresses.{number_of}
use Rattle.xod_trie_mut.proofs.looking.with_children.Given as goal

abbrev pub invariant-loop-link : goal.invariant-loop-link
invariant-loop-link l = record {
  items : l.waiting.items ≡ l.initial.waiting.items ++ map (λ child. child.1) (take l.link-index l.branch.children);
  below : AllByRecursion (λ child. number_of child.1 < number_of l.at) (take l.link-index l.branch.children);
}
