use Rattle.std.proofs.Common.{◌<◌, take}
use Rattle.std.specs.List.{AllByRecursion}
use Rattle.xod_block.specs.Addresses.{number_of}
use Rattle.xod_block.specs.Reading.{links_in}
use Rattle.xod_trie_mut.proofs.loading.are_below.Given as goal

abbrev pub invariant-loop-index : goal.invariant-loop-index
invariant-loop-index l = AllByRecursion (λ child. number_of child.1 < number_of l.at) (take l.index (links_in l.links))
