use Rattle.xod_acts.specs.Acts.{unset_plan}
use Rattle.xod_acts.proofs.Expanding.{expands}
use Rattle.xod_acts.proofs.SetPlans.{unset_agrees, unset_ready}
use Rattle.xod_acts.proofs.set.expand_unset.Goals as goal

pub returns-in-Ok : goal.returns-in-Ok
returns-in-Ok g c = expands (unset_plan c.args.id c.args.prop.now) c.in-Ok.found c.in-Ok.ensures.looks
    (unset_ready c.args.id c.args.prop.now c.in-Ok.found c.in-Ok.ensures.short)
    (λ rows are. unset_agrees rows are.sound c.args.id c.args.prop.now) c.plan_unset.result c.plan_unset.ensures
