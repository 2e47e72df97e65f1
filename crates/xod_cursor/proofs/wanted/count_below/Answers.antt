use Rattle.xod_block.specs.Reading.{links_in}
use Rattle.xod_cursor.proofs.Counting.{count-stops, count-goes_on}
use Rattle.xod_cursor.proofs.wanted.count_below.Goals as goal

pub returns-then-b-byte : goal.returns-then-b-byte
returns-then-b-byte c = count-stops c.args.byte (links_in c.args.links.now) c.loop-index.index c.link_at-b.result c.link_at-b.ensures c.if-b-byte.true c.loop-index.invariant

pub loop-index-preserved : goal.loop-index-preserved
loop-index-preserved c = count-goes_on c.args.byte (links_in c.args.links.now) c.loop-index.index c.link_at-b.result c.link_at-b.ensures c.if-b-byte.false c.loop-index.invariant
