use Rattle.std.proofs.Common.{◌≡◌, length}
use Rattle.xod_block.specs.Records.{rise}
use Rattle.xod_block.specs.Reading.{links_in}
use Rattle.xod_block.proofs.reading.rise.Given as goal

abbrev pub invariant-loop-rest : goal.invariant-loop-rest
invariant-loop-rest l = rise (links_in l.rest) ≡ rise (links_in l.links)

abbrev pub decreases-loop-rest : goal.decreases-loop-rest
decreases-loop-rest l = length l.rest
