use Rattle.std.proofs.Common.{◌∙◌, refl, arith}
use Rattle.std.specs.Prelude.{vec_len, vec_capacity}
use Rattle.xod_env.specs.Envs.{env_trees}
use Rattle.xod_journal.specs.declared.journal.Step.TheVariants as step
use Rattle.xod_journal.proofs.CallerLemmas.{seat-going}
use Rattle.xod_recover.specs.Images.{Settled}
use Rattle.xod_store.specs.Views.{env_newest}
use Rattle.xod_store.proofs.Booked.{grew, keeps-synced}
use Rattle.xod_store.proofs.Keeping.{Facts}
use Rattle.xod_store.proofs.Syncing.{sync-made, sync-refused, unless-broken, whole-ok, widened}
use Rattle.xod_store.proofs.Leaving.{at-least-same, at-least-wrote}
use Rattle.xod_store.proofs.Newest.{synced-low}
use Rattle.xod_store.proofs.state.StoreState.step_sync.Goals as goal

pub invariant_of-self-in-Break-branch-2 : goal.invariant_of-self-in-Break-branch-2
invariant_of-self-in-Break-branch-2 g c =
    let store = c.args.self.now in
    let made = c.make_room.ensures in
    let sync = c.sync.ensures in
    let origin = store.start.origin.value in
    let there = widened (record { accounted = store.accounted; booked = store.booked; told = store.told; safe = store.safe }) made.items made.len made.grows in
    let now = unless-broken sync.broken_before_all
    (λ e. Facts (g.V.Volume.tells e.volume) (Settled (g.V.Volume.files origin.volume) (g.V.Volume.may_leave origin.volume (g.V.Volume.moment origin.volume))) (env_newest origin.log (g.V.Volume.files origin.volume) origin.roots origin.commit)
    (g.V.Volume.faults origin.volume) (g.V.Volume.moment origin.volume) store.start.sessions c.make_room.new.items.items (vec_len c.make_room.new.items) (vec_capacity c.make_room.new.items) store.open_txns store.adapter.names (g.V.Volume.faults e.volume) e.is_broken e.log e.commit (env_trees e.log.file (g.V.Volume.files e.volume) e.roots) (g.V.Volume.files e.volume) (g.V.Volume.moment e.volume) (g.V.Volume.may_leave origin.volume) (g.V.Volume.may_leave e.volume))
    there
    (λ whole. sync-refused g.V.Volume.tells g.V.Volume.files g.V.Volume.moment g.V.Volume.may_leave g.V.Volume.leases g.V.Volume.refs g.V.Volume.faults store.env.volume c.sync.new.self.volume sync.refusals sync.breaks_exactly sync.log sync.newest sync.trees sync.stays sync.crash sync.steady there whole refl refl (omega arith)) in
    record { tells = sync.stays.tells ∙ store.tells; accounted = now.accounted; booked = now.booked; told = now.told; safe = now.safe }

pub invariant_of-self-2 : goal.invariant_of-self-2
invariant_of-self-2 g c =
    let store = c.args.self.now in
    let made = c.make_room.ensures in
    let sync = c.sync.ensures in
    let put = c.enter.ensures in
    let seat = seat-going _ c.requires in
    let grown = grew _ _ _ _ _ _ _ _ _ _ step.Sync made.items made.len c.in_ok-make_room.ensures.room put.items put.len put.capacity in
    let now = sync-made g.V.Volume.tells g.V.Volume.files g.V.Volume.moment g.V.Volume.may_leave g.V.Volume.leases g.V.Volume.refs g.V.Volume.faults store.env.volume c.sync.new.self.volume sync.refusals sync.breaks_exactly sync.log sync.newest sync.trees sync.stays sync.crash sync.steady
    (record { accounted = store.accounted; booked = store.booked; told = store.told; safe = store.safe }) (whole-ok c.in_ok-sync.ensures.refusals) c.in_ok-sync.ensures.durable c.args.actor grown.entry
    (keeps-synced _ _ _ _ _ _ _ store.booked c.args.actor seat.0 seat.1 _ _ _ grown) in
    record { tells = sync.stays.tells ∙ store.tells; accounted = now.accounted; booked = now.booked; told = now.told; safe = now.safe }

pub returns-in_err-make_room-clause-crash : goal.returns-in_err-make_room-clause-crash
returns-in_err-make_room-clause-crash g c told calm = at-least-same (g.V.Volume.may_leave c.args.self.now.env.volume) (c.args.self.now.safe told calm).leaves.synced

pub returns-in_err-sync-clause-crash : goal.returns-in_err-sync-clause-crash
returns-in_err-sync-clause-crash g c told calm =
    let store = c.args.self.now in
    at-least-wrote store.env c.sync.new.self c.sync.ensures.broken_before_all (c.sync.ensures.crash told) (store.safe told calm).steady (synced-low _ _ _ _ _ _ _ store.booked) (store.safe told calm).leaves.synced

pub returns-clause-crash : goal.returns-clause-crash
returns-clause-crash g c told calm =
    let store = c.args.self.now in
    at-least-wrote store.env c.sync.new.self c.sync.ensures.broken_before_all (c.sync.ensures.crash told) (store.safe told calm).steady (synced-low _ _ _ _ _ _ _ store.booked) (store.safe told calm).leaves.synced
