use Rattle.std.proofs.Common.{◌∙◌, arith}
use Rattle.xod_journal.specs.declared.journal.Step.TheVariants as step
use Rattle.xod_journal.proofs.CallerLemmas.{seat-going}
use Rattle.xod_spaces.proofs.KeepingLemmas.{grew, keeps-synced}
use Rattle.xod_spaces.proofs.SpaceLemmas.{same-seat}
use Rattle.xod_spaces.proofs.space.FaultySpaceSpace.sync.Goals as goal

pub invariant_of-self : goal.invariant_of-self
invariant_of-self c =
    let put = c.enter.ensures in
    let same = c.admit.ensures.same in
    let s = seat-going _ c.requires in
    record {
      kept = keeps-synced _ _ _ _ _ _ _ _ c.admit.new.self.kept c.args.actor s.0 (same-seat c.args.self.now c.admit.new.self c.args.actor same ∙ s.1) _ _ _ _ (omega arith)
          (grew _ _ _ _ _ _ _ _ step.Sync c.in_ok-admit.ensures.room put.items put.len put.capacity);
    }
