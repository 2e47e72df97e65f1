use Rattle.std.proofs.Common.{rules}
use Rattle.xod_log.proofs.Pairs.{empty_durable, empty_stands}
use Rattle.xod_log.proofs.log.Log.fresh.Goals as goal

pub returns-clause-stands : goal.returns-clause-stands
returns-clause-stands g c told = rw c.empty.ensures (empty_stands 0 c.args.target _ _ (c.in_ok-make_pair.ensures.made told) (c.in_ok-make_pair.ensures.durable told))

pub returns-clause-durable : goal.returns-clause-durable
returns-clause-durable g c told = empty_durable 0 _ _ (c.in_ok-make_pair.ensures.made told) (c.in_ok-make_pair.ensures.durable told)

pub returns-in_err-make_pair-clause-settled : goal.returns-in_err-make_pair-clause-settled
returns-in_err-make_pair-clause-settled g c told not_device = c.make_pair.ensures.settled told (λ bad. search rules)

pub returns-clause-settled : goal.returns-clause-settled
returns-clause-settled g c told not_device = c.in_ok-make_pair.ensures.settled told (λ bad. search rules)
