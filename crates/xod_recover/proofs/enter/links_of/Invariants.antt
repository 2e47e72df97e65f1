use Rattle.std.proofs.Common.{◌≡◌, take}
use Rattle.xod_block.specs.Reading.{links_in}
use Rattle.xod_recover.proofs.enter.links_of.Given as goal

abbrev pub invariant-loop-index : goal.invariant-loop-index
invariant-loop-index l = l.list ≡ take l.index (links_in l.bytes)
