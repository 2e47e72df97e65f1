use Rattle.std.proofs.Common.{◌∙◌, refl, ap, arith}
use Rattle.std.specs.Prelude.{vec_capacity}
use Rattle.xod_journal.specs.Seats.{entered}
use Rattle.xod_journal.specs.declared.journal.Step.TheVariants as step
use Rattle.xod_store.proofs.Booked.{grew, keeps-ended}
use Rattle.xod_store.proofs.Keeping.{entered-facts, rested}
use Rattle.xod_store.proofs.Leaving.{at-least-rests}
use Rattle.xod_store.proofs.state.StoreState.step_end.Goals as goal

pub invariant_of-self-2 : goal.invariant_of-self-2
invariant_of-self-2 g c =
    let store = c.args.self.now in
    let made = c.in-Ok.ensures in
    let put = c.enter.ensures in
    let there = rested c.unpin.ensures.files c.unpin.ensures.newest c.unpin.ensures.log c.unpin.ensures.broken_as_before c.unpin.ensures.steady (record { accounted = store.accounted; booked = store.booked; told = store.told; safe = store.safe }) {room2 = vec_capacity store.journal} refl refl (omega arith) in
    let now = entered-facts there c.args.actor step.End refl refl (λ s. refl) (λ n. refl) (λ n rows. refl) (put.items ∙ ap (λ j. entered j c.args.actor step.End) made.items)
    (keeps-ended _ _ _ _ _ _ _ there.booked c.args.actor _ c.requires.seat _ _ _ _ _ refl c.remove.ensures (grew _ _ _ _ _ _ _ _ _ _ step.End made.items made.len made.room put.items put.len put.capacity)) in
    record { tells = c.unpin.ensures.files.tells_same ∙ store.tells; accounted = now.accounted; booked = now.booked; told = now.told; safe = now.safe }

pub returns-clause-crash : goal.returns-clause-crash
returns-clause-crash g c told calm = at-least-rests (c.args.self.now.safe told calm).leaves.synced (c.unpin.ensures.files.rests told)
