use Rattle.xod_acts.specs.Acts.{unlink_all_plan}
use Rattle.xod_acts.proofs.Expanding.{expands}
use Rattle.xod_acts.proofs.LinkPlans.{unlink_all_agrees, unlink_all_ready}
use Rattle.xod_acts.proofs.links.expand_unlink_all.Goals as goal

pub returns-in-Ok : goal.returns-in-Ok
returns-in-Ok g c = expands (unlink_all_plan c.args.source c.args.link.now) c.in-Ok.found c.in-Ok.ensures
    (unlink_all_ready c.args.source c.args.link.now c.in-Ok.found)
    (λ rows are. unlink_all_agrees rows c.args.source c.args.link.now are.sound) c.plan_unlink_all.result c.plan_unlink_all.ensures
