use Rattle.std.proofs.Common.{refl, subst, ◌+◌}
use Rattle.xod_journal.specs.Spaces.{IsCounted}
use Rattle.xod_spaces.proofs.KeepingLemmas.{keeps-stopped, stop-room}
use Rattle.xod_spaces.proofs.space.FaultySpaceSpace.stop.Goals as goal

pub enter-requires : goal.enter-requires
enter-requires c = stop-room _ _ _ _ _ _ _ _ c.args.self.now.kept c.args.self.now.outside refl c.args.actor c.args.line _ _ c.args.cause c.args.origin c.requires

pub invariant_of-self : goal.invariant_of-self
invariant_of-self c =
    let put = c.enter.ensures in
    record {
      kept = keeps-stopped _ _ _ _ _ _ _ _ c.args.self.now.kept c.args.self.now.outside refl c.args.actor c.args.line _ _ c.args.cause c.args.origin c.requires
          _ _ _ _ _ c.remove.ensures put.items put.len put.capacity c.count.ensures.stays.never_falls
          (subst (λ n. IsCounted (c.args.self.now.outside.faults + n) c.count.new.self.faults) c.faults_of.ensures c.count.ensures.counted);
    }
