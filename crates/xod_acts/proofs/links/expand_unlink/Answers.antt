use Rattle.xod_acts.specs.Acts.{unlink_plan}
use Rattle.xod_acts.proofs.Expanding.{expands}
use Rattle.xod_acts.proofs.LinkPlans.{unlink_agrees, unlink_ready}
use Rattle.xod_acts.proofs.links.expand_unlink.Goals as goal

pub returns-in-Ok : goal.returns-in-Ok
returns-in-Ok g c = expands (unlink_plan c.args.source c.args.link.now c.args.target) c.in-Ok.found c.in-Ok.ensures
    (unlink_ready c.args.source c.args.link.now c.args.target c.in-Ok.found)
    (λ rows are. unlink_agrees rows c.args.source c.args.link.now are.sound c.args.target) c.plan_unlink.result c.plan_unlink.ensures
