use Rattle.xod_model.proofs.PlainLemmas.{keeps-stopped, no_faults, stop-room}
use Rattle.xod_model.proofs.plain.PlainSpaceSpace.stop.Goals as goal

pub enter-requires : goal.enter-requires
enter-requires c = stop-room _ _ _ _ _ _ _ _ c.args.self.now.kept c.args.actor c.args.line _ _ c.args.cause c.args.origin c.requires

pub invariant_of-self : goal.invariant_of-self
invariant_of-self c =
    let put = c.enter.ensures in
    record { kept = keeps-stopped _ _ _ _ _ _ _ _ c.args.self.now.kept c.args.actor c.args.line _ _ c.args.cause c.args.origin c.requires _ _ _ _ (no_faults c.args.txn) c.remove.ensures put.items put.len put.capacity }
