use Rattle.std.proofs.Common.{rules, IsTrue, ◌+◌, sym, subst, ◌∙◌}
use Rattle.xod_volume.specs.Files.{bytes_of}
use Rattle.xod_log.specs.declared.log.Log.{Log}
use Rattle.xod_log.specs.Standing.{Stands, body_file, ends_file}
use Rattle.xod_log.specs.Calls.{Rolls, MakesPair, BodyFirst}
use Rattle.xod_log.proofs.Runs.{rested}
use Rattle.xod_log.proofs.Pairs.{empty_stands}
use Rattle.xod_log.proofs.Rolling.{sealing_has_next, start_rolls, seal_rolls, pair_rolls, making_apart, making_stands, first_after, stood_first}
use Rattle.xod_log.proofs.Synced.{settled_after}
use Rattle.xod_log.proofs.log.Log.make_next.Given.{Over}
use Rattle.xod_log.proofs.log.Log.make_next.Goals.{After-make_pair}
use Rattle.xod_log.proofs.log.Log.make_next.Goals as goal

pub returns-in_default-clause-leaves : goal.returns-in_default-clause-leaves
returns-in_default-clause-leaves g c told =
    let v0 = c.args.volume.now in
    let log = c.args.self.now in
    let B = bytes_of (g.V.Volume.files v0) (body_file log) in
    let E = bytes_of (g.V.Volume.files v0) (ends_file log) in
    rested (g.V.Volume.moment v0) (g.V.Volume.may_leave v0) (Rolls log B E) (λ was im. start_rolls log B E was ((c.requires.stands told).each was im))

pub returns-in_err-seal-clause-leaves : goal.returns-in_err-seal-clause-leaves
returns-in_err-seal-clause-leaves g c told =
    let v0 = c.args.volume.now in
    let v1 = c.seal.new.volume in
    let log = c.args.self.now in
    let B = bytes_of (g.V.Volume.files v0) (body_file log) in
    let E = bytes_of (g.V.Volume.files v0) (ends_file log) in
    seal_rolls log B E (g.V.Volume.moment v0) (g.V.Volume.moment v1) (g.V.Volume.moment v1) (g.V.Volume.may_leave v0) (g.V.Volume.may_leave v1) (g.V.Volume.may_leave v1)
    (c.seal.ensures.leaves told)

pub returns-in_err-make_pair-clause-stands_on : goal.returns-in_err-make_pair-clause-stands_on
returns-in_err-make_pair-clause-stands_on g c told not_device =
    let v1 = c.seal.new.volume in
    let v2 = c.make_pair.new.volume in
    let t1 : IsTrue (g.V.Volume.tells v1) = rw c.seal.ensures.stays.tells told in
    making_stands c.args.self.now c.seal.new.self c.in_ok-seal.ensures.log (g.V.Volume.moment v1) (g.V.Volume.moment v2) (g.V.Volume.may_leave v1) (g.V.Volume.may_leave v2)
    (g.V.Volume.files v1) (g.V.Volume.files v2) (rw c.in-Some.ensures.1 at c.make_pair.ensures.others t1) (rw c.in-Some.ensures.1 at c.make_pair.ensures.crash t1)
    (c.in_ok-seal.ensures.stands_on told (λ bad. search rules))

pub returns-in_err-make_pair-clause-leaves : goal.returns-in_err-make_pair-clause-leaves
returns-in_err-make_pair-clause-leaves g c told =
    let v0 = c.args.volume.now in
    let v1 = c.seal.new.volume in
    let v2 = c.make_pair.new.volume in
    let log = c.args.self.now in
    let t1 : IsTrue (g.V.Volume.tells v1) = rw c.seal.ensures.stays.tells told in
    let B = bytes_of (g.V.Volume.files v0) (body_file log) in
    let E = bytes_of (g.V.Volume.files v0) (ends_file log) in
    pair_rolls log B E (g.V.Volume.moment v0) (g.V.Volume.moment v1) (g.V.Volume.moment v2) (g.V.Volume.may_leave v0) (g.V.Volume.may_leave v1) (g.V.Volume.may_leave v2)
    (c.seal.ensures.leaves told) (rw c.in-Some.ensures.1 at c.make_pair.ensures.crash t1)

pub returns-clause-stands_on : goal.returns-clause-stands_on
returns-clause-stands_on g c told not_device =
    let v1 = c.seal.new.volume in
    let v2 = c.make_pair.new.volume in
    let t1 : IsTrue (g.V.Volume.tells v1) = rw c.seal.ensures.stays.tells told in
    making_stands c.args.self.now c.seal.new.self c.in_ok-seal.ensures.log (g.V.Volume.moment v1) (g.V.Volume.moment v2) (g.V.Volume.may_leave v1) (g.V.Volume.may_leave v2)
    (g.V.Volume.files v1) (g.V.Volume.files v2) (rw c.in-Some.ensures.1 at c.make_pair.ensures.others t1) (rw c.in-Some.ensures.1 at c.make_pair.ensures.crash t1)
    (c.in_ok-seal.ensures.stands_on told (λ bad. search rules))

pub returns-clause-next_stands : goal.returns-clause-next_stands
returns-clause-next_stands g c told =
    let v1 = c.seal.new.volume in
    let v2 = c.make_pair.new.volume in
    let t1 : IsTrue (g.V.Volume.tells v1) = rw c.seal.ensures.stays.tells told in
    let stands = empty_stands c.in-Some.file c.seal.new.self.target (g.V.Volume.files v2) (g.V.Volume.may_leave v2 (g.V.Volume.moment v2))
    (c.in_ok-make_pair.ensures.made t1) (c.in_ok-make_pair.ensures.durable t1) in
    subst (λ (next : Log). Stands next (g.V.Volume.files v2) (g.V.Volume.may_leave v2 (g.V.Volume.moment v2))) (sym c.empty.ensures) stands

pub returns-clause-leaves : goal.returns-clause-leaves
returns-clause-leaves g c told =
    let v0 = c.args.volume.now in
    let v1 = c.seal.new.volume in
    let v2 = c.make_pair.new.volume in
    let log = c.args.self.now in
    let t1 : IsTrue (g.V.Volume.tells v1) = rw c.seal.ensures.stays.tells told in
    let B = bytes_of (g.V.Volume.files v0) (body_file log) in
    let E = bytes_of (g.V.Volume.files v0) (ends_file log) in
    pair_rolls log B E (g.V.Volume.moment v0) (g.V.Volume.moment v1) (g.V.Volume.moment v2) (g.V.Volume.may_leave v0) (g.V.Volume.may_leave v1) (g.V.Volume.may_leave v2)
    (c.seal.ensures.leaves told) (rw c.in-Some.ensures.1 at c.make_pair.ensures.crash t1)

-- ---- the body comes before the mark

pub returns-in_default-clause-body_first : goal.returns-in_default-clause-body_first
returns-in_default-clause-body_first g c told = stood_first _ _ _ (c.requires.stands told)

pub returns-in_err-seal-clause-body_first : goal.returns-in_err-seal-clause-body_first
returns-in_err-seal-clause-body_first g c told = (c.seal.ensures.claims told).body_first

made-first : (g : Over) (c : After-make_pair g) → IsTrue (g.V.Volume.tells c.args.volume.now)
    → BodyFirst c.args.self.now (g.V.Volume.files c.args.volume.now) (g.V.Volume.may_leave c.make_pair.new.volume (g.V.Volume.moment c.make_pair.new.volume))
made-first g c told =
    let t1 : IsTrue (g.V.Volume.tells c.seal.new.volume) = rw c.seal.ensures.stays.tells told in
    first_after c.args.self.now _ _ _ _ _ (MakesPair (c.args.self.now.file + 1)) (rw c.in-Some.ensures.1 at c.make_pair.ensures.crash t1) (making_apart c.args.self.now) (c.seal.ensures.claims told).body_first

pub returns-in_err-make_pair-clause-body_first : goal.returns-in_err-make_pair-clause-body_first
returns-in_err-make_pair-clause-body_first g c = made-first g (goal.at.returns-in_err-make_pair-clause-body_first g c).After-make_pair

pub returns-clause-body_first : goal.returns-clause-body_first
returns-clause-body_first g c = made-first g (goal.at.returns-clause-body_first g c).After-make_pair

-- ---- what was settled

pub returns-in_err-seal-clause-settled : goal.returns-in_err-seal-clause-settled
returns-in_err-seal-clause-settled g c told fine other apart =
    settled_after other _ _ _ _ _ _ _ (c.seal.ensures.leaves told) (λ was left s. s.others other apart) (c.seal.ensures.others told other apart)

pub returns-in_err-make_pair-clause-settled : goal.returns-in_err-make_pair-clause-settled
returns-in_err-make_pair-clause-settled g c told fine other apart was =
    let t1 : IsTrue (g.V.Volume.tells c.seal.new.volume) = rw c.seal.ensures.stays.tells told in
    c.make_pair.ensures.settled t1 (λ bad. search rules) other
    (settled_after other _ _ _ _ _ _ _ (c.seal.ensures.leaves told) (λ was left s. s.others other apart) (c.seal.ensures.others told other apart) was)

pub returns-clause-settled : goal.returns-clause-settled
returns-clause-settled g c told fine other apart was =
    let t1 : IsTrue (g.V.Volume.tells c.seal.new.volume) = rw c.seal.ensures.stays.tells told in
    c.in_ok-make_pair.ensures.settled t1 (λ bad. search rules) other
    (settled_after other _ _ _ _ _ _ _ (c.seal.ensures.leaves told) (λ was left s. s.others other apart) (c.seal.ensures.others told other apart) was)

-- ---- whether the next log file is there

pub returns-in_err-seal-clause-next_known : goal.returns-in_err-seal-clause-next_known
returns-in_err-seal-clause-next_known g c told known = known ∙ sym (sealing_has_next c.args.self.now _ _ (c.seal.ensures.others told))

pub returns-in_err-make_pair-clause-next_known : goal.returns-in_err-make_pair-clause-next_known
returns-in_err-make_pair-clause-next_known g c told known =
    let t1 : IsTrue (g.V.Volume.tells c.seal.new.volume) = rw c.seal.ensures.stays.tells told in
    (rw c.in-Some.ensures.1 at c.make_pair.ensures.known t1) (known ∙ sym (sealing_has_next c.args.self.now _ _ (c.seal.ensures.others told)))

pub returns-clause-next_known : goal.returns-clause-next_known
returns-clause-next_known g c told known =
    let t1 : IsTrue (g.V.Volume.tells c.seal.new.volume) = rw c.seal.ensures.stays.tells told in
    (rw c.in-Some.ensures.1 at c.in_ok-make_pair.ensures.known t1) (known ∙ sym (sealing_has_next c.args.self.now _ _ (c.seal.ensures.others told)))
