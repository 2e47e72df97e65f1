use Rattle.std.proofs.Common.{◌∙◌, refl, arith}
use Rattle.std.specs.Prelude.{vec_capacity}
use Rattle.xod_journal.specs.declared.journal.Step.TheVariants as step
use Rattle.xod_journal.proofs.CallerLemmas.{seat-open}
use Rattle.xod_store.specs.Views.{env_newest, store_view}
use Rattle.xod_store.proofs.Accounted.{accounted-stopped}
use Rattle.xod_store.proofs.Booked.{keeps-stopped, stop-room}
use Rattle.xod_store.proofs.Keeping.{rested, stopped-facts}
use Rattle.xod_store.proofs.Stopping.{accounted-there}
use Rattle.xod_store.proofs.Leaving.{at-least-rests}
use Rattle.xod_store.proofs.state.StoreState.step_stop.Goals as goal

pub enter-requires : goal.enter-requires
enter-requires g c =
    let s = seat-open _ _ c.requires.seat in
    stop-room _ _ _ _ _ _ _ c.args.self.now.booked c.args.actor s.0 s.1 c.requires.least c.requires.most

pub invariant_of-self : goal.invariant_of-self
invariant_of-self g c =
    let store = c.args.self.now in
    let back = c.take_back.ensures in
    let put = c.enter.ensures in
    let s = seat-open _ _ c.requires.seat in
    let origin = store.start.origin.value in
    let space = store_view (g.V.Volume.tells store.env.volume) (env_newest origin.log (g.V.Volume.files origin.volume) origin.roots origin.commit) store.journal.items (g.V.Volume.faults store.env.volume) (g.V.Volume.faults origin.volume) store.start.sessions store.env.is_broken store.env.log store.env.commit in
    let there = rested back.files back.newest back.log back.broken_as_before back.steady (record { accounted = store.accounted; booked = store.booked; told = store.told; safe = store.safe }) {room2 = vec_capacity store.journal} refl refl (omega arith) in
    let booked = keeps-stopped _ _ _ _ _ _ _ there.booked c.args.actor s.0 s.1 c.requires.least c.requires.most c.args.line c.args.cause c.args.origin _ _ _ _ c.remove.ensures put.items put.len put.capacity in
    let count = accounted-there back.newest back.log back.broken_as_before (accounted-stopped space store.accounted c.args.actor c.args.line _ _ back.files.never_falls back.counted c.args.cause c.args.origin _ c.requires.met put.items) in
    let now = stopped-facts there c.args.actor (step.Stop c.args.line c.args.cause c.args.origin) refl (λ s. refl) (λ n. refl) (λ n rows. refl) put.items booked count in
    record { tells = back.files.tells_same ∙ store.tells; accounted = now.accounted; booked = now.booked; told = now.told; safe = now.safe }

pub returns-clause-crash : goal.returns-clause-crash
returns-clause-crash g c told calm = at-least-rests (c.args.self.now.safe told calm).leaves.synced (c.take_back.ensures.files.rests told)
