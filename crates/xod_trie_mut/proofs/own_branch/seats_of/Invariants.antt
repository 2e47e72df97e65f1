use Rattle.std.proofs.Common.{◌≡◌, take}
use Rattle.xod_block.specs.Reading.{links_in}
use Rattle.xod_trie_mut.proofs.own_branch.seats_of.Given as goal

abbrev pub invariant-loop-index : goal.invariant-loop-index
invariant-loop-index l = l.list ≡ take l.index (links_in l.links)
