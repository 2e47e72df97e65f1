use Rattle.std.proofs.Common.{rules, ◌≡◌, ℕ, List, IfOk, IsTrue, sym, ◌∙◌, ap, subst}
use Rattle.std.specs.Prelude.{IsSome}
use Rattle.std.specs.FinMap.{get, keys}
use Rattle.std.specs.List.{All, filter}
use Rattle.xod_volume.specs.Files.{Files}
use Rattle.xod_volume.specs.Leases.{lent_of}
use Rattle.xod_env.specs.Bodies.{is_body_up_to}
use Rattle.xod_env.proofs.Lending.{bodies_there, lent_up_to}
use Rattle.xod_env.proofs.lend.lend_bodies.Goals as goal

pub lend-requires : goal.lend-requires
lend-requires g c = record {
  exist = λ told1.
      let before = g.V.Volume.files c.args.volume.now in
      let told : IsTrue (g.V.Volume.tells c.args.volume.now) = rw c.files.ensures.stays.tells at told1 in
      let listed : c.deref-2.result.now ≡ filter (is_body_up_to c.args.current) (keys before) = search rules in
      subst (λ (list : List ℕ). All (λ file. IsSome (get (g.V.Volume.files c.files.new.self) file)) list) (sym listed)
      (subst (λ (files : Files). All (λ file. IsSome (get files file)) (filter (is_body_up_to c.args.current) (keys before)))
      (sym (c.files.ensures.same told)) (bodies_there c.args.current before));
}

pub returns-clause-holds : goal.returns-clause-holds
returns-clause-holds g c told =
    let before = g.V.Volume.files c.args.volume.now in
    let told1 : IsTrue (g.V.Volume.tells c.files.new.self) = search rules in
    let listed : c.deref-2.result.now ≡ filter (is_body_up_to c.args.current) (keys before) = search rules in
    let lent : lent_of c.deref-2.result.now (g.V.Volume.files c.files.new.self) ≡ lent_of (filter (is_body_up_to c.args.current) (keys before)) before =
    ap (λ (list : List ℕ). lent_of list (g.V.Volume.files c.files.new.self)) listed
    ∙ ap (λ (files : Files). lent_of (filter (is_body_up_to c.args.current) (keys before)) files) (c.files.ensures.same told) in
    subst (λ (files : Files). IfOk c.lend.result (λ lease. g.V.Held.Lease.lent lease ≡ files))
    (lent ∙ lent_up_to c.args.current before) (c.lend.ensures.holds told1)
