use Rattle.std.proofs.Common.{◌≡◌, ◌∙◌, Some, sym, ap, subst, arith, inl, inr}
use mathlib.Core.Path.{transport}
use Rattle.xod_recover.specs.Images.{Settled}
use Rattle.xod_recover.specs.Stores.{stored_in}
use Rattle.xod_volume.specs.Crash.{LeftSince}
use Rattle.xod_volume.specs.Files.{Files}
use Rattle.xod_env.specs.Envs.{newest_stored}
use Rattle.xod_shell.specs.Holdings.{HasBegun}
use Rattle.xod_shell.specs.Runs.{Ran, disk_of}
use Rattle.xod_shell.proofs.RunLemmas.{formed-of, held-since, holds-stored, refusal-of, stored-since}
use Rattle.xod_shell.proofs.run.run.Goals as goal

pub overflow_cast-count : goal.overflow_cast-count
overflow_cast-count g c =
    let few = (formed-of c.args.script c.requires.formed).1 in
    omega (arith, few, c.len-count.ensures)

pub seat-requires-clause-formed : goal.seat-requires-clause-formed
seat-requires-clause-formed g c = (formed-of c.args.script c.requires.formed).0

pub seat-requires-clause-few : goal.seat-requires-clause-few
seat-requires-clause-few g c = (formed-of c.args.script c.requires.formed).1

pub returns-in-Err : goal.returns-in-Err
returns-in-Err g c =
    let volume = c.args.volume in
    let now = c.in-Err.volume in
    let leaves = c.in-Err.ensures.refusal_leaves in
    inl (record {
      why = refusal-of (disk_of g.V.Volume.tells g.V.Volume.files g.V.Volume.faults g.V.Volume.moment g.V.Volume.may_leave volume now) c.in-Err.error c.refused.result c.refused.ensures (λ is. c.in-Err.ensures.device is) (λ place is told. c.in-Err.ensures.damaged told place is);
      stored = λ told. leaves.stored told;
      safe = λ told calm. stored-since (g.V.Volume.files volume) (g.V.Volume.moment volume) (g.V.Volume.moment now) (g.V.Volume.may_leave volume) (g.V.Volume.may_leave now) calm (leaves.crash told calm);
    })

pub new-requires : goal.new-requires
new-requires g c = record {
  whole = c.in-Ok-open.ensures.unbroken;
  sealed = c.in-Ok-open.ensures.sealed;
  stored = λ told. c.in-Ok-open.ensures.stores (sym c.in-Ok-open.ensures.leaves.stays.tells ∙ told);
  kinds_are = λ told. c.in-Ok-open.ensures.kinds (sym c.in-Ok-open.ensures.leaves.stays.tells ∙ told);
}

pub play_out-requires-clause-tells : goal.play_out-requires-clause-tells
play_out-requires-clause-tells g c =
    ap (λ e. g.V.Volume.tells e.volume) c.in-Ok-new.ensures.origin ∙ c.in-Ok-open.ensures.leaves.stays.tells ∙ ap (λ v. g.V.Volume.tells v) (sym c.of-before.ensures)

pub play_out-requires-clause-faults : goal.play_out-requires-clause-faults
play_out-requires-clause-faults g c =
    ap (λ e. g.V.Volume.faults e.volume) c.in-Ok-new.ensures.origin ∙ c.in-Ok-open.ensures.unfailed ∙ ap (λ v. g.V.Volume.faults v) (sym c.of-before.ensures)

pub play_out-requires-clause-stored : goal.play_out-requires-clause-stored
play_out-requires-clause-stored g c = λ told.
    let before = c.of-before.ensures in
    let stores = c.in-Ok-open.ensures.found (ap (λ v. g.V.Volume.tells v) (sym before) ∙ told) in
    ap (λ v. stored_in (g.V.Volume.files v)) before ∙ stores ∙ ap (λ e. Some (newest_stored e.log.file (g.V.Volume.files e.volume) e.roots e.commit)) (sym c.in-Ok-new.ensures.origin)

pub play_out-requires-clause-begun : goal.play_out-requires-clause-begun
play_out-requires-clause-begun g c =
    let volume = c.args.volume in
    let env = c.in-Ok-open.env in
    let opened = c.in-Ok-open.ensures in
    let start : HasBegun g.V.Volume.tells g.V.Volume.files g.V.Volume.moment g.V.Volume.may_leave env.volume env.log env.roots env.commit (Settled (g.V.Volume.files volume) (g.V.Volume.may_leave volume (g.V.Volume.moment volume))) (g.V.Volume.moment volume) =
    λ told calm.
    let tell = sym opened.leaves.stays.tells ∙ told in
    let crash = opened.leaves.crash tell calm in
    record {
      later = crash.later;
      settled = opened.settled tell calm;
      held = held-since _ (g.V.Volume.files volume) (g.V.Volume.moment volume) (g.V.Volume.moment env.volume) (g.V.Volume.may_leave volume) (g.V.Volume.may_leave env.volume) crash calm.alike
          (λ left same. holds-stored left (g.V.Volume.files env.volume) env.log env.roots env.commit (env.opened opened.unbroken told).tables (same ∙ opened.found tell));
    } in
    transport (λ i. HasBegun g.V.Volume.tells g.V.Volume.files g.V.Volume.moment g.V.Volume.may_leave ((sym c.in-Ok-new.ensures.origin i).volume) ((sym c.in-Ok-new.ensures.origin i).log) ((sym c.in-Ok-new.ensures.origin i).roots) ((sym c.in-Ok-new.ensures.origin i).commit)
    (Settled (g.V.Volume.files (sym c.of-before.ensures i)) (g.V.Volume.may_leave (sym c.of-before.ensures i) (g.V.Volume.moment (sym c.of-before.ensures i)))) (g.V.Volume.moment (sym c.of-before.ensures i))) start

pub play_out-requires-clause-sit : goal.play_out-requires-clause-sit
play_out-requires-clause-sit g c = c.in-Ok.ensures.sit _ c.in-Ok-new.ensures.journal (c.in-Ok-new.ensures.sessions ∙ c.len-count.ensures)

pub returns-in-Ok-new : goal.returns-in-Ok-new
returns-in-Ok-new g c =
    inr (subst (λ v. Ran (disk_of g.V.Volume.tells g.V.Volume.files g.V.Volume.faults g.V.Volume.moment g.V.Volume.may_leave v c.play_out.result.1) c.args.script c.play_out.result.0) c.of-before.ensures
    (c.play_out.ensures.ran c.args.script (sym c.in-Ok.ensures.scripts) (sym c.as_slice.ensures)))

pub returns : goal.returns
returns g c =
    let volume = c.args.volume in
    let env = c.in-Ok-open.env in
    let opened = c.in-Ok-open.ensures in
    let back = c.in-Err-new.ensures.back in
    let rests = c.close-volume.ensures.sealed_rests (ap (λ e. e.log.is_sealed) back ∙ opened.sealed) (ap (λ e. e.is_broken) back ∙ opened.unbroken) ∙ ap (λ e. e.volume) back in
    inl (record {
      why = tt;
      stored = λ told. ap (λ v. stored_in (g.V.Volume.files v)) rests ∙ opened.leaves.stored told;
      safe = λ told calm. subst (λ v. (left : Files) → LeftSince (g.V.Volume.moment volume) (g.V.Volume.moment v) (g.V.Volume.may_leave v) left → stored_in left ≡ stored_in (g.V.Volume.files volume)) (sym rests)
          (stored-since (g.V.Volume.files volume) (g.V.Volume.moment volume) (g.V.Volume.moment env.volume) (g.V.Volume.may_leave volume) (g.V.Volume.may_leave env.volume) calm (opened.leaves.crash told calm));
    })
