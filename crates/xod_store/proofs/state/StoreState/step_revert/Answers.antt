use Rattle.std.proofs.Common.{◌∙◌, refl, sym, ap, arith, ℕ}
use Rattle.std.specs.Prelude.{vec_capacity}
use Rattle.std.specs.FinMap.{insert}
use Rattle.xod_journal.specs.Seats.{entered}
use Rattle.xod_journal.specs.declared.journal.Step.TheVariants as step
use Rattle.xod_store.proofs.Booked.{grew, keeps-reverted, open-is}
use Rattle.xod_store.proofs.Keeping.{entered-facts, rested}
use Rattle.xod_store.proofs.Leaving.{at-least-behind, at-least-rests, at-least-same}
use Rattle.xod_store.proofs.state.StoreState.step_revert.Goals as goal

pub invariant_of-self-in-Break-branch-2 : goal.invariant_of-self-in-Break-branch-2
invariant_of-self-in-Break-branch-2 g c =
    let store = c.args.self.now in
    let made = c.make_room.ensures in
    let now = rested c.pin_newest.ensures.files c.pin_newest.ensures.newest c.pin_newest.ensures.log c.pin_newest.ensures.broken_as_before c.pin_newest.ensures.steady (record { accounted = store.accounted; booked = store.booked; told = store.told; safe = store.safe }) made.items made.len made.grows in
    record { tells = c.pin_newest.ensures.files.tells_same ∙ store.tells; accounted = now.accounted; booked = now.booked; told = now.told; safe = now.safe }

pub invariant_of-self-2 : goal.invariant_of-self-2
invariant_of-self-2 g c =
    let store = c.args.self.now in
    let made = c.make_room.ensures in
    let put = c.enter.ensures in
    let early = rested c.pin_newest.ensures.files c.pin_newest.ensures.newest c.pin_newest.ensures.log c.pin_newest.ensures.broken_as_before c.pin_newest.ensures.steady (record { accounted = store.accounted; booked = store.booked; told = store.told; safe = store.safe }) {room2 = vec_capacity store.journal} refl refl (omega arith) in
    let there = rested c.unpin.ensures.files c.unpin.ensures.newest c.unpin.ensures.log c.unpin.ensures.broken_as_before c.unpin.ensures.steady early {room2 = vec_capacity store.journal} refl refl (omega arith) in
    let is_open = open-is _ _ _ _ _ _ _ store.booked c.args.actor _ c.requires.seat in
    let now = entered-facts there c.args.actor step.Revert refl refl (λ s. refl) (λ n. refl) (λ n rows. refl) (put.items ∙ ap (λ j. entered j c.args.actor step.Revert) made.items)
    (keeps-reverted _ _ _ _ _ _ _ there.booked c.args.actor _ c.requires.seat _ _ _ _ _ refl
    (c.rebase.ensures _ is_open ∙ ap (λ (b : ℕ). insert store.open_txns c.args.actor (record { mode = c.args.txn.now.mode; base = b })) (c.in_ok-snapshot.ensures.version ∙ sym c.pin_newest.ensures.newest.commit ∙ sym c.unpin.ensures.newest.commit))
    (grew _ _ _ _ _ _ _ _ _ _ step.Revert made.items made.len c.in_ok-make_room.ensures.room put.items put.len put.capacity)) in
    record { tells = c.unpin.ensures.files.tells_same ∙ c.pin_newest.ensures.files.tells_same ∙ store.tells; accounted = now.accounted; booked = now.booked; told = now.told; safe = now.safe }

pub returns-in_err-make_room-clause-crash : goal.returns-in_err-make_room-clause-crash
returns-in_err-make_room-clause-crash g c told calm = at-least-same (g.V.Volume.may_leave c.args.self.now.env.volume) (c.args.self.now.safe told calm).leaves.synced

pub returns-clause-crash : goal.returns-clause-crash
returns-clause-crash g c told calm =
    at-least-behind (at-least-rests (c.args.self.now.safe told calm).leaves.synced (c.pin_newest.ensures.files.rests told)) (c.unpin.ensures.files.rests (c.pin_newest.ensures.files.tells_same ∙ told))
