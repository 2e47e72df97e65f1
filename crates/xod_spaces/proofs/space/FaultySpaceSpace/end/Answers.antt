use Rattle.std.proofs.Common.{◌∙◌, arith, refl}
use Rattle.xod_journal.specs.declared.journal.Step.TheVariants as step
use Rattle.xod_spaces.proofs.KeepingLemmas.{grew, keeps-ended}
use Rattle.xod_spaces.proofs.SpaceLemmas.{same-seat}
use Rattle.xod_spaces.proofs.space.FaultySpaceSpace.end.Goals as goal

pub invariant_of-self : goal.invariant_of-self
invariant_of-self c =
    let put = c.enter.ensures in
    let same = c.can_end.ensures.same in
    record {
      kept = keeps-ended _ _ _ _ _ _ _ _ c.can_end.new.self.kept c.args.actor _ (same-seat c.args.self.now c.can_end.new.self c.args.actor same ∙ c.requires.seat) _ _ _ _ (omega arith)
          _ _ refl c.remove.ensures (grew _ _ _ _ _ _ _ _ step.End (c.can_end.ensures.room c.if-not-can_end.false) put.items put.len put.capacity);
    }
