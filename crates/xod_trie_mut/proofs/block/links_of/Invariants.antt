use Rattle.std.proofs.Common.{◌≡◌, take}
use Rattle.std.specs.List.{AllByRecursion}
use Rattle.xod_block.specs.Records.{links_bytes, FitsLink}
use Rattle.xod_trie_mut.proofs.block.links_of.Given as goal

abbrev pub invariant-loop-index : goal.invariant-loop-index
invariant-loop-index l = record {
  raw : l.raw ≡ links_bytes (take l.index l.children);
  fits : AllByRecursion FitsLink (take l.index l.children);
}
