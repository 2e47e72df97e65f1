use Rattle.std.proofs.Common.{◌∙◌, refl, sym, arith}
use Rattle.std.specs.Prelude.{vec_capacity}
use Rattle.xod_store.proofs.Keeping.{rested}
use Rattle.xod_store.proofs.Opened.{may-begin}
use Rattle.xod_store.proofs.Leaving.{rests-again}
use Rattle.xod_store.proofs.state.StoreState.go_on.Goals as goal

pub invariant_of-self-in-Err-1 : goal.invariant_of-self-in-Err-1
invariant_of-self-in-Err-1 g c =
    let store = c.args.self.now in
    let now = rested c.pin_newest.ensures.files c.pin_newest.ensures.newest c.pin_newest.ensures.log c.pin_newest.ensures.broken_as_before c.pin_newest.ensures.steady (record { accounted = store.accounted; booked = store.booked; told = store.told; safe = store.safe }) {room2 = vec_capacity store.journal} refl refl (omega arith) in
    record { tells = c.pin_newest.ensures.files.tells_same ∙ store.tells; accounted = now.accounted; booked = now.booked; told = now.told; safe = now.safe }

pub invariant_of-self : goal.invariant_of-self
invariant_of-self g c =
    let store = c.args.self.now in
    let early = rested c.pin_newest.ensures.files c.pin_newest.ensures.newest c.pin_newest.ensures.log c.pin_newest.ensures.broken_as_before c.pin_newest.ensures.steady (record { accounted = store.accounted; booked = store.booked; told = store.told; safe = store.safe }) {room2 = vec_capacity store.journal} refl refl (omega arith) in
    let now = rested c.unpin.ensures.files c.unpin.ensures.newest c.unpin.ensures.log c.unpin.ensures.broken_as_before c.unpin.ensures.steady early {room2 = vec_capacity store.journal} refl refl (omega arith) in
    record { tells = c.unpin.ensures.files.tells_same ∙ c.pin_newest.ensures.files.tells_same ∙ store.tells; accounted = now.accounted; booked = now.booked; told = now.told; safe = now.safe }

pub renew-old-requires : goal.renew-old-requires
renew-old-requires g c told =
    let pinned = c.in-Ok.ensures in
    let tell = sym pinned.tells_alike ∙ told in
    may-begin _ _ _ _ _ (c.args.self.now.told tell) (pinned.trees tell) _ pinned.names

pub returns-in-Ok-clause-rests : goal.returns-in-Ok-clause-rests
returns-in-Ok-clause-rests g c told = rests-again (c.pin_newest.ensures.files.rests told) (c.unpin.ensures.files.rests (c.pin_newest.ensures.files.tells_same ∙ told))
