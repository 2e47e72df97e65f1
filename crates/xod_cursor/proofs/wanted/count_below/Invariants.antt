use Rattle.std.proofs.Common.{◌≡◌, ◌+◌, drop}
use Rattle.xod_block.specs.Reading.{links_in}
use Rattle.xod_cursor.specs.Wants.{count_below}
use Rattle.xod_cursor.proofs.wanted.count_below.Given as goal

abbrev pub invariant-loop-index : goal.invariant-loop-index
invariant-loop-index l = count_below l.byte (links_in l.links) ≡ l.index + count_below l.byte (drop l.index (links_in l.links))
