use Rattle.xod_acts.specs.Acts.{link_plan}
use Rattle.xod_acts.proofs.Expanding.{expands}
use Rattle.xod_acts.proofs.LinkPlans.{link_agrees, link_ready}
use Rattle.xod_acts.proofs.links.expand_link.Goals as goal

pub returns-in-Ok : goal.returns-in-Ok
returns-in-Ok g c = expands (link_plan c.args.source c.args.link.now c.args.target) c.in-Ok.found c.in-Ok.ensures
    (link_ready c.args.source c.args.link.now c.args.target c.in-Ok.found c.requires)
    (λ rows are. link_agrees rows c.args.source c.args.link.now c.args.target) c.plan_link.result c.plan_link.ensures
