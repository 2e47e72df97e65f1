use Rattle.std.proofs.Common.{◌∙◌, arith, refl}
use Rattle.xod_journal.specs.declared.journal.Step.TheVariants as step
use Rattle.xod_spaces.proofs.KeepingLemmas.{grew, keeps-reverted}
use Rattle.xod_spaces.proofs.SpaceLemmas.{same-seat}
use Rattle.xod_spaces.proofs.space.FaultySpaceSpace.revert.Goals as goal

pub invariant_of-self-2 : goal.invariant_of-self-2
invariant_of-self-2 c =
    let put = c.enter.ensures in
    let same = c.admit.ensures.same in
    record {
      kept = keeps-reverted _ _ _ _ _ _ _ _ c.admit.new.self.kept c.args.actor _ (same-seat c.args.self.now c.admit.new.self c.args.actor same ∙ c.requires.seat) _ _ _ _ (omega arith)
          _ _ refl c.in_ok-set.ensures (grew _ _ _ _ _ _ _ _ step.Revert c.in_ok-admit.ensures.room put.items put.len put.capacity);
    }
