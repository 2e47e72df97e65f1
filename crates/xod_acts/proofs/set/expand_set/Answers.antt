use Rattle.xod_acts.specs.Acts.{set_plan}
use Rattle.xod_acts.proofs.Expanding.{expands}
use Rattle.xod_acts.proofs.SetPlans.{set_agrees, set_ready}
use Rattle.xod_acts.proofs.set.expand_set.Goals as goal

pub returns-in-Ok : goal.returns-in-Ok
returns-in-Ok g c = expands (set_plan c.args.id c.args.prop.now c.args.value.now) c.in-Ok.found c.in-Ok.ensures.looks
    (set_ready c.args.id c.args.prop.now c.args.value.now c.in-Ok.found c.requires c.in-Ok.ensures.short)
    (λ rows are. set_agrees rows c.args.id c.args.prop.now c.args.value.now) c.plan_set.result c.plan_set.ensures
