use Rattle.xod_journal.specs.declared.journal.Step.TheVariants as step
use Rattle.xod_model.proofs.PlainLemmas.{keeps-ended, pushed}
use Rattle.xod_model.proofs.plain.PlainSpaceSpace.end.Goals as goal

pub invariant_of-self-2 : goal.invariant_of-self-2
invariant_of-self-2 c =
    let made = c.in-Ok.ensures in
    let put = c.enter.ensures in
    record {
      kept = keeps-ended _ _ _ _ _ _ _ _ c.args.self.now.kept _ _ _ c.args.actor _ _ c.requires.seat c.remove.ensures
          (pushed _ _ _ _ _ _ _ _ _ _ step.End made.items made.len made.room put.items put.len put.capacity);
    }
