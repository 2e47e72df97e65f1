use Rattle.std.proofs.lemmas.Bool.{cond-true}
use Rattle.std.proofs.Common.{rules, ◌≡◌, ◌∙◌, Some, is_ok, is_some, ap, subst}
use Rattle.xod_log.specs.declared.error.LogError.{LogError}
use Rattle.xod_log.specs.Standing.{body_file, ends_file, sealed_log}
use Rattle.xod_recover.specs.Images.{AllStore}
use Rattle.xod_recover.specs.Stores.{Stored, stored_in}
use Rattle.xod_volume.specs.Files.{Content, Files, bytes_of}
use Rattle.xod_env.specs.Envs.{IsAt, IsSteady}
use Rattle.xod_snapshot.specs.Snapshots.{snapshot_trees}
use Rattle.xod_env.proofs.Answers.{not-err, on-ok}
use Rattle.xod_env.proofs.Lasting.{seal_body}
use Rattle.xod_env.proofs.RestStores.{reads-stored, steady-settled, steady-stored}
use Rattle.xod_env.proofs.Sealed.{at-either, either-answered, either-placed, newest-either, now-sealed, pair-ends, seal-front, since-seal, steady-either}
use Rattle.xod_env.proofs.Sealing.{same_bodies, same_count}
use Rattle.xod_env.proofs.parts.seal_newest.Goals as goal

pub returns-clause-at : goal.returns-clause-at
returns-clause-at g c told roots commit at fine =
    let log = c.args.log.now in
    let F = g.V.Volume.files c.args.volume.now in
    let G = g.V.Volume.files c.seal.new.volume in
    at-either log roots commit F _ at G (c.seal.ensures.others told) (seal-front log F G (c.seal.ensures.reads told)) c.seal.new.self _
    (either-answered (is_ok c.seal.result) log c.seal.new.self c.seal.ensures.log) (c.seal.ensures.stands_on told fine)

pub returns-clause-crash : goal.returns-clause-crash
returns-clause-crash g c told roots commit at placed steady =
    let v0 = c.args.volume.now in
    let v1 = c.seal.new.volume in
    since-seal c.args.log.now roots commit (g.V.Volume.files v0) (g.V.Volume.moment v0) (g.V.Volume.moment v1) (g.V.Volume.may_leave v0) (g.V.Volume.may_leave v1) at placed steady (c.seal.ensures.leaves told)

pub returns-clause-steady : goal.returns-clause-steady
returns-clause-steady g c told roots commit at steady fine =
    let log = c.args.log.now in
    let v0 = c.args.volume.now in
    let v1 = c.seal.new.volume in
    let F = g.V.Volume.files v0 in
    let G = g.V.Volume.files v1 in
    let passes = c.seal.ensures.leaves told in
    steady-either log roots commit F _ at G (c.seal.ensures.others told) (seal-front log F G (c.seal.ensures.reads told)) steady _
    (λ left i. passes.each (g.V.Volume.moment v1) left passes.later (search rules) i) c.seal.new.self
    (either-answered (is_ok c.seal.result) log c.seal.new.self c.seal.ensures.log) (c.seal.ensures.stands_on told fine)

pub returns-clause-trees : goal.returns-clause-trees
returns-clause-trees g c told roots =
    let log = c.args.log.now in
    ap (λ (F : Files). snapshot_trees F roots) (same_bodies log.file (g.V.Volume.files c.args.volume.now) (g.V.Volume.files c.seal.new.volume) (c.seal.ensures.others told) log.file)

pub returns-clause-count : goal.returns-clause-count
returns-clause-count g c told =
    let log = c.args.log.now in
    let F = g.V.Volume.files c.args.volume.now in
    let G = g.V.Volume.files c.seal.new.volume in
    same_count log.file F G (c.seal.ensures.others told) (ap (λ (x : Content). is_some x) (c.requires.stands told).has_ends)
    (pair-ends log (bytes_of F (body_file log)) (bytes_of F (ends_file log)) F G (c.seal.ensures.reads told))

pub returns-clause-body_stays : goal.returns-clause-body_stays
returns-clause-body_stays g c told =
    seal_body c.args.log.now (g.V.Volume.files c.args.volume.now) (g.V.Volume.files c.seal.new.volume) _ (c.requires.stands told) (c.seal.ensures.others told)

pub returns-clause-stores : goal.returns-clause-stores
returns-clause-stores g c told roots commit at placed = on-ok c.seal.result _ (λ ok.
    let log = c.args.log.now in
    let now = c.seal.new.self in
    let F = g.V.Volume.files c.args.volume.now in
    let v1 = c.seal.new.volume in
    let G = g.V.Volume.files v1 in
    let I = g.V.Volume.may_leave v1 (g.V.Volume.moment v1) in
    let is : now ≡ sealed_log log = c.seal.ensures.log ∙ cond-true (is_ok c.seal.result) (sealed_log log) log ok in
    let either = either-answered (is_ok c.seal.result) log now c.seal.ensures.log in
    let fine = not-err c.seal.result LogError.Device ok in
    let here : IsAt now roots commit G I = returns-clause-at g c told roots commit at fine in
    subst (λ (s : Stored). stored_in G ≡ Some s) (newest-either log now roots commit F G either (c.seal.ensures.others told))
    (reads-stored now roots commit G I here (now-sealed log now is) (either-placed log now roots either placed)))

pub returns-clause-durable : goal.returns-clause-durable
returns-clause-durable g c told roots commit at placed steady = on-ok c.seal.result _ (λ ok.
    let log = c.args.log.now in
    let now = c.seal.new.self in
    let F = g.V.Volume.files c.args.volume.now in
    let v1 = c.seal.new.volume in
    let G = g.V.Volume.files v1 in
    let I = g.V.Volume.may_leave v1 (g.V.Volume.moment v1) in
    let is : now ≡ sealed_log log = c.seal.ensures.log ∙ cond-true (is_ok c.seal.result) (sealed_log log) log ok in
    let either = either-answered (is_ok c.seal.result) log now c.seal.ensures.log in
    let fine = not-err c.seal.result LogError.Device ok in
    let here : IsAt now roots commit G I = returns-clause-at g c told roots commit at fine in
    let still : IsSteady now G I = returns-clause-steady g c told roots commit at steady fine in
    subst (λ (s : Stored). AllStore (Some s) I) (newest-either log now roots commit F G either (c.seal.ensures.others told))
    (steady-stored now roots commit G I here (now-sealed log now is) (either-placed log now roots either placed) still))

pub returns-clause-settled : goal.returns-clause-settled
returns-clause-settled g c told roots commit at placed steady = on-ok c.seal.result _ (λ ok.
    let log = c.args.log.now in
    let now = c.seal.new.self in
    let v1 = c.seal.new.volume in
    let G = g.V.Volume.files v1 in
    let I = g.V.Volume.may_leave v1 (g.V.Volume.moment v1) in
    let is : now ≡ sealed_log log = c.seal.ensures.log ∙ cond-true (is_ok c.seal.result) (sealed_log log) log ok in
    let either = either-answered (is_ok c.seal.result) log now c.seal.ensures.log in
    let fine = not-err c.seal.result LogError.Device ok in
    let here : IsAt now roots commit G I = returns-clause-at g c told roots commit at fine in
    let still : IsSteady now G I = returns-clause-steady g c told roots commit at steady fine in
    steady-settled now roots commit G I here (now-sealed log now is) (either-placed log now roots either placed) still)
