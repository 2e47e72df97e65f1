use Rattle.std.proofs.Common.{rules}
use Rattle.xod_log.proofs.Rolling.{roll_claims, sealed_outlives}
use Rattle.xod_log.proofs.log.Log.roll.Goals as goal

pub returns-in_err-self-clause-stands_on : goal.returns-in_err-self-clause-stands_on
returns-in_err-self-clause-stands_on g c told not_device = c.make_next.ensures.stands_on told (λ bad. search rules)

pub returns-in_err-self-clause-claims : goal.returns-in_err-self-clause-claims
returns-in_err-self-clause-claims g c told = roll_claims _ _ _ _ _ _ (c.requires.stands told) (c.make_next.ensures.leaves told) (c.make_next.ensures.body_first told)

pub returns-in_err-self-clause-settled : goal.returns-in_err-self-clause-settled
returns-in_err-self-clause-settled g c told not_device = c.make_next.ensures.settled told (λ bad. search rules)

pub returns-clause-claims : goal.returns-clause-claims
returns-clause-claims g c told = roll_claims _ _ _ _ _ _ (c.requires.stands told) (c.make_next.ensures.leaves told) (c.make_next.ensures.body_first told)

pub returns-clause-durable : goal.returns-clause-durable
returns-clause-durable g c told = sealed_outlives c.args.self.now _ _ _ c.in_ok-self.ensures.log (c.in_ok-self.ensures.stands_on told (λ bad. search rules))

pub returns-clause-settled : goal.returns-clause-settled
returns-clause-settled g c told not_device = c.in_ok-self.ensures.settled told (λ bad. search rules)
