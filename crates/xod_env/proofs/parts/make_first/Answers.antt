use Rattle.std.proofs.Common.{◌≡◌, refl, sym, subst, arith}
use Rattle.xod_log.specs.declared.error.LogError.{LogError}
use Rattle.xod_log.specs.declared.log.Log.{Log}
use Rattle.xod_log.specs.Standing.{Stands, empty_log}
use Rattle.xod_env.specs.Envs.{IsAt, IsSteady, no_roots}
use Rattle.xod_env.proofs.Answers.{not-err, ok-both}
use Rattle.xod_env.proofs.FirstPair.{all-unused, first-at, made-settled, made-unused, since-made}
use Rattle.xod_env.proofs.RestStores.{settled-steady}
use Rattle.xod_env.proofs.parts.make_first.Goals as goal

pub returns-clause-at : goal.returns-clause-at
returns-clause-at g c told =
    let v0 = c.args.volume.now in
    let v1 = c.fresh.new.volume in
    let G = g.V.Volume.files v1 in
    let I = g.V.Volume.may_leave v1 (g.V.Volume.moment v1) in
    let unused = made-unused (g.V.Volume.files v0) G (c.fresh.ensures.reads told) (all-unused (g.V.Volume.files v0) (c.requires.unused told)) in
    ok-both c.fresh.result _ _ _ c.fresh.ensures.log (c.fresh.ensures.stands told) (λ log ok is stands.
    subst (λ (l : Log). IsAt l no_roots 0 G I) (sym is) (first-at c.args.target G I unused (subst (λ (l : Log). Stands l G I) is stands)))

pub returns-clause-crash : goal.returns-clause-crash
returns-clause-crash g c told settled =
    let v0 = c.args.volume.now in
    let v1 = c.fresh.new.volume in
    since-made (g.V.Volume.moment v0) (g.V.Volume.moment v1) (g.V.Volume.may_leave v0) (g.V.Volume.may_leave v1) (c.fresh.ensures.leaves told) (g.V.Volume.files v0)
    (all-unused (g.V.Volume.files v0) (c.requires.unused told)) settled

pub returns-clause-settled : goal.returns-clause-settled
returns-clause-settled g c told settled =
    let v0 = c.args.volume.now in
    let v1 = c.fresh.new.volume in
    let F = g.V.Volume.files v0 in
    let G = g.V.Volume.files v1 in
    let none = all-unused F (c.requires.unused told) in
    ok-both c.fresh.result _ _ _ c.fresh.ensures.log (c.fresh.ensures.durable told) (λ log ok is durable.
    made-settled (g.V.Volume.moment v0) (g.V.Volume.moment v1) (g.V.Volume.may_leave v0) (g.V.Volume.may_leave v1) (c.fresh.ensures.leaves told) F none settled
    G (c.fresh.ensures.reads told) durable (c.fresh.ensures.settled told (not-err c.fresh.result LogError.Device ok))
    (made-unused F G (c.fresh.ensures.reads told) none 0 (omega arith) (omega arith)))

pub returns-clause-steady : goal.returns-clause-steady
returns-clause-steady g c told settled =
    let v1 = c.fresh.new.volume in
    let G = g.V.Volume.files v1 in
    let I = g.V.Volume.may_leave v1 (g.V.Volume.moment v1) in
    ok-both c.fresh.result _ _ _ (ok-both c.fresh.result _ _ (λ log. (log ≡ empty_log 0 c.args.target) × IsAt log no_roots 0 G I) c.fresh.ensures.log (returns-clause-at g c told) (λ log ok is at. (is, at)))
    (returns-clause-settled g c told settled)
    (λ log ok both now_settled. subst (λ (l : Log). IsSteady l G I) (sym both.0) (settled-steady (empty_log 0 c.args.target) no_roots 0 G I (subst (λ (l : Log). IsAt l no_roots 0 G I) both.0 both.1) refl now_settled))
