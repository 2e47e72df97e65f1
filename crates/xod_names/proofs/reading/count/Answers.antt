use Rattle.xod_names.proofs.Halving.{halving-ends}
use Rattle.xod_names.proofs.reading.count.Goals as goal

pub returns-clause-finds : goal.returns-clause-finds
returns-clause-finds g c = halving-ends c.args.view.now c.halving.view c.halving.low c.halving.high c.halving.invariant c.halving-test.false
