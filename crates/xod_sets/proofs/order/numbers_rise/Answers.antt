use Rattle.std.proofs.Common.{◌∙◌}
use Rattle.xod_sets.proofs.Sorting.{number_next}
use Rattle.xod_sets.proofs.order.numbers_rise.Goals as goal

pub loop-number-preserved : goal.loop-number-preserved
loop-number-preserved c = c.loop-number.invariant
    ∙ number_next c.loop-number.last c.in-Some.rest.now c.loop-number.number-index c.loop-number-test.true c.if-number-last.false
