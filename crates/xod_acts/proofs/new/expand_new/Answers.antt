use Rattle.xod_acts.specs.Acts.{new_plan}
use Rattle.xod_acts.proofs.Expanding.{expands}
use Rattle.xod_acts.proofs.NewPlans.{new_agrees, new_ready}
use Rattle.xod_acts.proofs.new.expand_new.Goals as goal

pub returns-in-Ok : goal.returns-in-Ok
returns-in-Ok g c = expands (new_plan c.args.kind.now) c.in-Ok.found c.in-Ok.ensures (new_ready c.args.kind.now c.in-Ok.found c.requires)
    (λ rows are. new_agrees rows c.args.kind.now) c.plan_new.result c.plan_new.ensures
