use Rattle.xod_acts.specs.Acts.{delete_plan}
use Rattle.xod_acts.proofs.Expanding.{expands}
use Rattle.xod_acts.proofs.DeletePlans.{delete_agrees, delete_ready}
use Rattle.xod_acts.proofs.delete.expand_delete.Goals as goal

pub returns-in-Ok : goal.returns-in-Ok
returns-in-Ok g c = expands (delete_plan c.args.id) c.in-Ok.found c.in-Ok.ensures.looks (delete_ready c.args.id c.in-Ok.found c.in-Ok.ensures.short)
    (λ rows are. delete_agrees rows c.args.id) c.plan_delete.result c.plan_delete.ensures
