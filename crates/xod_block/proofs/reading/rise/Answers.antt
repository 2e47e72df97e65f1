use Rattle.std.proofs.Common.{sym, ◌∙◌}
use Rattle.xod_block.specs.Records.{rise}
use Rattle.xod_block.specs.Reading.{links_in}
use Rattle.xod_block.proofs.Links.{rise-short, rise-goes_on, rise-stops}
use Rattle.xod_block.proofs.reading.rise.Goals as goal

pub returns-then-number-others : goal.returns-then-number-others
returns-then-number-others c = rise-stops c.loop-rest.rest.now c.split_at.result.1.now (rise (links_in c.args.links.now)) c.split_at.ensures.back c.loop-rest-test.true c.if-number-others.true c.loop-rest.invariant

pub loop-rest-preserved : goal.loop-rest-preserved
loop-rest-preserved c = rise-goes_on c.loop-rest.rest.now c.split_at.result.1.now (rise (links_in c.args.links.now)) c.split_at.ensures.back c.loop-rest-test.true c.if-number-others.false c.loop-rest.invariant

pub returns : goal.returns
returns c = sym (rise-short c.loop-rest.rest.now c.loop-rest-test.false) ∙ c.loop-rest.invariant
