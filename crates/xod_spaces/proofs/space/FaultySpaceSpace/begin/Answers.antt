use Rattle.std.proofs.Common.{◌∙◌, None, ap, arith, refl, sym}
use Rattle.std.specs.FinMap.{entries}
use Rattle.xod_journal.specs.declared.journal.Step.TheVariants as step
use Rattle.xod_journal.specs.Books.{holder_among}
use Rattle.xod_spaces.proofs.KeepingLemmas.{grew, keeps-begun}
use Rattle.xod_spaces.proofs.SpaceLemmas.{same-seat}
use Rattle.xod_spaces.proofs.space.FaultySpaceSpace.begin.Goals as goal

pub invariant_of-self-2 : goal.invariant_of-self-2
invariant_of-self-2 c =
    let put = c.enter.ensures in
    let same = c.admit.ensures.same in
    record {
      kept = keeps-begun _ _ _ _ _ _ _ _ c.admit.new.self.kept c.args.actor None (same-seat c.args.self.now c.admit.new.self c.args.actor same ∙ c.requires) _ _ _ _ (omega arith)
          c.args.mode _ refl (ap (λ t. holder_among c.args.mode (entries t)) same.txns ∙ sym c.holder.ensures ∙ c.in_default.is) c.in_ok-set.ensures
          (grew _ _ _ _ _ _ _ _ (step.Begin c.args.mode) c.in_default-admit.ensures.room put.items put.len put.capacity);
    }
