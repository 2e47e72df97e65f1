use Rattle.xod_journal.specs.declared.journal.Step.TheVariants as step
use Rattle.xod_model.proofs.PlainLemmas.{keeps-synced, pushed}
use Rattle.xod_model.proofs.plain.PlainSpaceSpace.sync.Goals as goal

pub invariant_of-self-2 : goal.invariant_of-self-2
invariant_of-self-2 c =
    let made = c.in_ok-make_room.ensures in
    let put = c.enter.ensures in
    record { kept = keeps-synced _ _ _ _ _ _ _ _ c.args.self.now.kept _ _ _ c.args.actor c.requires (pushed _ _ _ _ _ _ _ _ _ _ step.Sync made.items made.len made.room put.items put.len put.capacity) }
