use Rattle.std.proofs.Common.{Bool, IsTrue, Some, sym, subst, ap, ◌∙◌}
use Rattle.xod_log.specs.declared.log.Log.{Log}
use Rattle.xod_recover.specs.Images.{Settled}
use Rattle.xod_recover.specs.Stores.{stored_in}
use Rattle.xod_env.specs.Envs.{newest_stored}
use Rattle.xod_env.proofs.Naming.{kinds_stored}
use Rattle.xod_env.proofs.env.Env.open.Goals as goal

pub returns-clause-stores : goal.returns-clause-stores
returns-clause-stores g c told =
    let env = c.over.result in
    let told1 : IsTrue (g.V.Volume.tells c.open_on.new.volume) = subst (λ (t : Bool). IsTrue t) (sym c.open_on.ensures.leaves.stays.tells) told in
    let told2 : IsTrue (g.V.Volume.tells env.volume) = subst (λ v. IsTrue (g.V.Volume.tells v)) (sym c.over.ensures.volume) told1 in
    let sealed : IsTrue env.log.is_sealed = ap (λ (log : Log). log.is_sealed) c.over.ensures.log ∙ c.in-Ok.ensures.sealed in
    let at = env.opened c.over.ensures.unbroken told2 in
    c.settled_volumes_are_steady.ensures.stored env.log env.roots env.commit env.volume at env.placed sealed

pub returns-clause-found : goal.returns-clause-found
returns-clause-found g c told =
    sym (c.open_on.ensures.leaves.stored told) ∙ sym (ap (λ v. stored_in (g.V.Volume.files v)) c.over.ensures.volume)
    ∙ returns-clause-stores g c told

pub returns-clause-steady : goal.returns-clause-steady
returns-clause-steady g c told settled =
    let env = c.over.result in
    let same = c.over.ensures.volume in
    let told1 : IsTrue (g.V.Volume.tells c.open_on.new.volume) = subst (λ (t : Bool). IsTrue t) (sym c.open_on.ensures.leaves.stays.tells) told in
    let told2 : IsTrue (g.V.Volume.tells env.volume) = subst (λ v. IsTrue (g.V.Volume.tells v)) (sym same) told1 in
    let sealed : IsTrue env.log.is_sealed = ap (λ (log : Log). log.is_sealed) c.over.ensures.log ∙ c.in-Ok.ensures.sealed in
    let at = env.opened c.over.ensures.unbroken told2 in
    c.settled_volumes_are_steady.ensures.steady env.log env.roots env.commit env.volume at sealed
    (subst (λ v. Settled (g.V.Volume.files v) (g.V.Volume.may_leave v (g.V.Volume.moment v))) (sym same) (c.in-Ok.ensures.settled told settled))

pub returns-clause-kinds : goal.returns-clause-kinds
returns-clause-kinds g c told =
    let env = c.over.result in
    kinds_stored (g.V.Volume.files c.args.volume) (newest_stored env.log.file (g.V.Volume.files env.volume) env.roots env.commit) env.kinds
    (c.in-Ok.ensures.kinds told ∙ ap Some (sym c.over.ensures.kinds)) (returns-clause-found g c told)
