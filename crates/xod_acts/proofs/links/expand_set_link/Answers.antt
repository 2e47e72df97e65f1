use Rattle.xod_acts.specs.Acts.{set_link_plan}
use Rattle.xod_acts.proofs.Expanding.{expands}
use Rattle.xod_acts.proofs.LinkPlans.{set_link_agrees, set_link_ready}
use Rattle.xod_acts.proofs.links.expand_set_link.Goals as goal

pub returns-in-Ok : goal.returns-in-Ok
returns-in-Ok g c = expands (set_link_plan c.args.source c.args.link.now c.args.target) c.in-Ok.found c.in-Ok.ensures
    (set_link_ready c.args.source c.args.link.now c.args.target c.in-Ok.found c.requires)
    (λ rows are. set_link_agrees rows c.args.source c.args.link.now are.sound c.args.target) c.plan_set_link.result c.plan_set_link.ensures
