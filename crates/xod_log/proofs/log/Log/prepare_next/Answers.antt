use Rattle.std.proofs.Common.{rules, refl}
use Rattle.xod_log.proofs.Rolling.{roll_claims, sealed_outlives, rolled_empty}
use Rattle.xod_log.proofs.log.Log.prepare_next.Goals as goal

pub returns-in_err-next-clause-stands_on : goal.returns-in_err-next-clause-stands_on
returns-in_err-next-clause-stands_on g c told not_device = c.make_next.ensures.stands_on told (λ bad. search rules)

pub returns-in_err-next-clause-next_known : goal.returns-in_err-next-clause-next_known
returns-in_err-next-clause-next_known g c told = c.make_next.ensures.next_known told (c.requires.next_known told)

pub returns-in_err-next-clause-claims : goal.returns-in_err-next-clause-claims
returns-in_err-next-clause-claims g c told = roll_claims _ _ _ _ _ _ (c.requires.stands told) (c.make_next.ensures.leaves told) (c.make_next.ensures.body_first told)

pub returns-in_err-next-clause-settled : goal.returns-in_err-next-clause-settled
returns-in_err-next-clause-settled g c told not_device = c.make_next.ensures.settled told (λ bad. search rules)

pub returns-clause-next_known : goal.returns-clause-next_known
returns-clause-next_known g c told = c.in_ok-next.ensures.next_known told (c.requires.next_known told)

pub returns-clause-next_pair : goal.returns-clause-next_pair
returns-clause-next_pair g c told = rolled_empty c.args.self.now _ _ (c.in_ok-next.ensures.rolled told)

pub returns-clause-claims : goal.returns-clause-claims
returns-clause-claims g c told = roll_claims _ _ _ _ _ _ (c.requires.stands told) (c.make_next.ensures.leaves told) (c.make_next.ensures.body_first told)

pub returns-clause-durable : goal.returns-clause-durable
returns-clause-durable g c told = sealed_outlives c.args.self.now _ _ _ c.in_ok-next.ensures.log (c.in_ok-next.ensures.stands_on told (λ bad. search rules))

pub returns-clause-next_durable : goal.returns-clause-next_durable
returns-clause-next_durable g c told = let stands = rw c.in_ok-next.ensures.next at c.in_ok-next.ensures.next_stands told in stands.settled refl

pub returns-clause-settled : goal.returns-clause-settled
returns-clause-settled g c told not_device = c.in_ok-next.ensures.settled told (λ bad. search rules)
