use Rattle.std.proofs.Common.{◌≡◌, drop}
use Rattle.xod_block.specs.Reading.{links_in}
use Rattle.xod_trie.specs.Branches.{child_of}
use Rattle.xod_trie.proofs.child.child_in.Given as goal

abbrev pub invariant-loop-index : goal.invariant-loop-index
invariant-loop-index l = child_of l.byte (drop l.index (links_in l.links)) ≡ child_of l.byte (links_in l.links)
