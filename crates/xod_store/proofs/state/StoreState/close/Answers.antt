use Rattle.std.proofs.Common.{◌≡◌, refl, sym, subst, true, false, arith}
use mathlib.Core.Path.{transport}
use Rattle.xod_env.specs.Envs.{newest_stored}
use Rattle.xod_store.specs.Images.{HoldsEarlier, LeavesPrefixes}
use Rattle.xod_store.specs.Views.{env_newest}
use Rattle.xod_store.proofs.Closing.{ok-holds, ok-stores}
use Rattle.xod_store.proofs.Newest.{at-newest, at-start, synced-low}
use Rattle.xod_store.proofs.Safe.{leaves-passes}
use Rattle.xod_store.proofs.state.StoreState.close.Goals as goal

pub returns-clause-leaves : goal.returns-clause-leaves
returns-clause-leaves g c told settled =
    let store = c.args.self in
    let safe = store.safe told settled in
    let kept = c.close-volume.ensures in
    let origin = store.start.origin.value in
    let start = env_newest origin.log (g.V.Volume.files origin.volume) origin.roots origin.commit in
    elim (store.env.is_broken) as (λ b. store.env.is_broken ≡ b → LeavesPrefixes start store.journal.items (g.V.Volume.moment origin.volume) (g.V.Volume.moment c.close-volume.result.0) (g.V.Volume.may_leave c.close-volume.result.0)) [
      | true ↦ λ is. let same = kept.broken_seals_nothing is in transport (λ i. LeavesPrefixes start store.journal.items (g.V.Volume.moment origin.volume) (g.V.Volume.moment (sym same i)) (g.V.Volume.may_leave (sym same i))) safe.leaves
      | false ↦ λ is.
          leaves-passes _ _ _ _ _ safe.leaves safe.later (newest_stored store.env.log.file (g.V.Volume.files store.env.volume) store.env.roots store.env.commit) _ _ (kept.crash told is (safe.steady is))
          (at-newest _ _ _ _ _ _ _ store.booked _ _ (store.told told)) (synced-low _ _ _ _ _ _ _ store.booked)
    ] refl

pub returns-clause-durable : goal.returns-clause-durable
returns-clause-durable g c told settled =
    let store = c.args.self in
    ok-stores c.close-volume.result.1 store.env.is_broken _ _ c.close-volume.ensures.refusals.broken_exactly.1
    (λ is. c.close-volume.ensures.durable told ((store.safe told settled).steady is))

pub returns-clause-earlier : goal.returns-clause-earlier
returns-clause-earlier g c told settled =
    let store = c.args.self in
    let safe = store.safe told settled in
    let kept = c.close-volume.ensures in
    let later = safe.later in
    let origin = store.start.origin.value in
    elim (store.env.is_broken) as (λ b. store.env.is_broken ≡ b → HoldsEarlier (env_newest origin.log (g.V.Volume.files origin.volume) origin.roots origin.commit) (g.V.Volume.moment origin.volume) (g.V.Volume.may_leave origin.volume) (g.V.Volume.may_leave c.close-volume.result.0)) [
      | true ↦ λ is low held moment left least most there. safe.earlier low held moment left least most (subst (λ v. g.V.Volume.may_leave v moment left) (kept.broken_seals_nothing is) there)
      | false ↦ λ is low held moment left least most there. safe.earlier low held moment left least most ((kept.crash told is (safe.steady is)).same moment left (omega arith) there)
    ] refl

pub returns-clause-holds : goal.returns-clause-holds
returns-clause-holds g c told =
    let store = c.args.self in
    ok-holds c.close-volume.result.1 _ _ _ (store.told told).tables (sym store.booked.newest) (c.close-volume.ensures.stores told)

pub returns-clause-begins : goal.returns-clause-begins
returns-clause-begins g c told left held = at-start _ _ _ _ _ _ _ c.args.self.booked left held
