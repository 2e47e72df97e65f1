use Rattle.std.proofs.Common.{arith}
use Rattle.xod_block.proofs.BodyLemmas.{record_at-past}
use Rattle.xod_block.proofs.body_fetch.record_in.Goals as goal

pub returns-then-at-body-clause-none : goal.returns-then-at-body-clause-none
returns-then-at-body-clause-none c = record_at-past c.args.body.now c.args.at (omega arith)
