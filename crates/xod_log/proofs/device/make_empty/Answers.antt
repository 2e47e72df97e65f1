use Rattle.std.proofs.Common.{◌≡◌, IsTrue, [], true, is_some, sym, ◌∙◌, ap}
use Rattle.std.specs.FinMap.{get}
use Rattle.xod_volume.specs.Files.{Files}
use Rattle.xod_volume.specs.Crash.{OnFile, Appears, Passes}
use Rattle.xod_log.proofs.Synced.{Ready, ready_made, ready_there, put_is_there, put_there, same_after, emptied_file, then_cut, then_synced, appears_still, settled_by}
use Rattle.xod_log.proofs.device.make_empty.Given.{Over}
use Rattle.xod_log.proofs.device.make_empty.Goals.{After-cut-arg-1, After-cut, In_ok-cut, After-sync, then-not-is_there+in_ok-create, else-not-is_there}
use Rattle.xod_log.proofs.device.make_empty.Goals as goal

-- ---- the place of a call leads back to that of the one before it

abbrev before-cut : (g : Over) → After-cut g → After-cut-arg-1 g
before-cut g c = c.before

abbrev cutting : (g : Over) → In_ok-cut g → After-cut g
cutting g c = c.before.before

abbrev was-cut : (g : Over) → After-sync g → In_ok-cut g
was-cut g c = c.before.before

-- ---- the file is there, made now or before

ready : (g : Over) (c : After-cut-arg-1 g) → Ready g.V.Volume.tells g.V.Volume.files g.V.Volume.moment g.V.Volume.may_leave c.args.file c.args.volume.now c.if-not-is_there.volume
ready g c = elim c.if-not-is_there.branch [
  | then-not-is_there+in_ok-create w ↦ ready_made _ _ _ _ _ _ _ _ w.volume-is w.create.ensures.stays.tells w.in_ok-create.ensures.created w.create.ensures.crash
  | else-not-is_there w ↦ ready_there _ _ _ _ _ _ _ w.volume-is (λ told. sym (c.requires.known told) ∙ w.if-not-is_there.false)
]

flagged : (g : Over) (c : After-cut-arg-1 g) → c.if-not-is_there.is_there ≡ true
flagged g c = elim c.if-not-is_there.branch [
  | then-not-is_there+in_ok-create w ↦ w.is_there-is
  | else-not-is_there w ↦ w.is_there-is ∙ w.if-not-is_there.false
]

-- ---- it is cut

cut-left : (g : Over) (c : After-cut g) → IsTrue (g.V.Volume.tells c.args.volume.now)
    → Passes (g.V.Volume.moment c.args.volume.now) (g.V.Volume.moment c.cut.new.self) (g.V.Volume.may_leave c.args.volume.now) (g.V.Volume.may_leave c.cut.new.self) (OnFile c.args.file Appears)
cut-left g c told =
    let r = ready g (before-cut g c) in
    then_cut c.args.file _ _ _ _ _ _ _ _ (r.made told) (c.cut.ensures.crash (rw r.tells_on told))

cut-read : (g : Over) (c : In_ok-cut g) → IsTrue (g.V.Volume.tells c.args.volume.now) → OnFile c.args.file Appears (g.V.Volume.files c.args.volume.now) (g.V.Volume.files c.cut.new.self)
cut-read g c told =
    let r = ready g (before-cut g (cutting g c)) in
    emptied_file c.args.file _ _ _ (r.made told).others (c.in_ok-cut.ensures.shortened (rw r.tells_on told))

-- ---- it is synced

sync-left : (g : Over) (c : After-sync g) → IsTrue (g.V.Volume.tells c.args.volume.now)
    → Passes (g.V.Volume.moment c.args.volume.now) (g.V.Volume.moment c.sync.new.self) (g.V.Volume.may_leave c.args.volume.now) (g.V.Volume.may_leave c.sync.new.self) (OnFile c.args.file Appears)
sync-left g c told =
    let r = ready g (before-cut g (cutting g (was-cut g c))) in
    let t2 : IsTrue (g.V.Volume.tells c.cut.new.self) = rw (c.cut.ensures.stays.tells, r.tells_on) told in
    then_synced _ _ _ _ _ _ (OnFile c.args.file Appears) (appears_still c.args.file) (cut-left g (cutting g (was-cut g c)) told) (c.sync.ensures.crash t2)

sync-read : (g : Over) (c : After-sync g) → IsTrue (g.V.Volume.tells c.args.volume.now) → OnFile c.args.file Appears (g.V.Volume.files c.args.volume.now) (g.V.Volume.files c.sync.new.self)
sync-read g c told =
    let r = ready g (before-cut g (cutting g (was-cut g c))) in
    let t2 : IsTrue (g.V.Volume.tells c.cut.new.self) = rw (c.cut.ensures.stays.tells, r.tells_on) told in
    same_after (OnFile c.args.file Appears) _ _ _ (cut-read g (was-cut g c) told) (c.sync.ensures.same t2)

-- ---- the goals

pub cut-requires-clause-exists : goal.cut-requires-clause-exists
cut-requires-clause-exists g c t1 = let r = ready g c in (r.made (rw r.tells_on at t1)).there

pub sync-requires : goal.sync-requires
sync-requires g c = record { exists = λ t2. put_is_there _ _ c.args.file _ (c.in_ok-cut.ensures.shortened (rw c.cut.ensures.stays.tells at t2)) }

pub returns-in_err-cut-clause-crash : goal.returns-in_err-cut-clause-crash
returns-in_err-cut-clause-crash g c = cut-left g (goal.at.returns-in_err-cut-clause-crash g c).After-cut

pub returns-in_err-cut-clause-reads : goal.returns-in_err-cut-clause-reads
returns-in_err-cut-clause-reads g c told =
    let r = ready g (before-cut g (goal.at.returns-in_err-cut-clause-reads g c).After-cut) in
    same_after (OnFile c.args.file Appears) _ _ _ (r.made told).reads (c.in_err-cut.ensures.refused (rw r.tells_on told))

pub returns-in_err-cut-clause-known : goal.returns-in_err-cut-clause-known
returns-in_err-cut-clause-known g c told =
    let here = before-cut g (goal.at.returns-in_err-cut-clause-known g c).After-cut in
    let r = ready g here in
    flagged g here ∙ sym (ap (λ (f : Files). is_some (get f c.args.file)) (c.in_err-cut.ensures.refused (rw r.tells_on told)) ∙ (r.made told).there)

pub returns-in_err-cut-clause-others : goal.returns-in_err-cut-clause-others
returns-in_err-cut-clause-others g c told other apart =
    let r = ready g (before-cut g (goal.at.returns-in_err-cut-clause-others g c).After-cut) in
    ap (λ (f : Files). get f other) (c.in_err-cut.ensures.refused (rw r.tells_on told)) ∙ (r.made told).others other apart

emptied-known : (g : Over) (c : After-sync g) → IsTrue (g.V.Volume.tells c.args.volume.now) → c.if-not-is_there.is_there ≡ is_some (get (g.V.Volume.files c.sync.new.self) c.args.file)
emptied-known g c told =
    let here = before-cut g (cutting g (was-cut g c)) in
    let r = ready g here in
    let t1 : IsTrue (g.V.Volume.tells c.if-not-is_there.volume) = rw r.tells_on told in
    let t2 : IsTrue (g.V.Volume.tells c.cut.new.self) = rw c.cut.ensures.stays.tells t1 in
    flagged g here
    ∙ sym (ap (λ (f : Files). is_some (get f c.args.file)) (c.sync.ensures.same t2) ∙ put_is_there _ _ c.args.file [] (c.in_ok-cut.ensures.shortened t1))

pub returns-in_err-sync-clause-known : goal.returns-in_err-sync-clause-known
returns-in_err-sync-clause-known g c = emptied-known g (goal.at.returns-in_err-sync-clause-known g c).After-sync

pub returns-clause-known : goal.returns-clause-known
returns-clause-known g c = emptied-known g (goal.at.returns-clause-known g c).After-sync

pub returns-in_err-sync-clause-crash : goal.returns-in_err-sync-clause-crash
returns-in_err-sync-clause-crash g c = sync-left g (goal.at.returns-in_err-sync-clause-crash g c).After-sync

pub returns-in_err-sync-clause-reads : goal.returns-in_err-sync-clause-reads
returns-in_err-sync-clause-reads g c = sync-read g (goal.at.returns-in_err-sync-clause-reads g c).After-sync

pub returns-in_err-sync-clause-others : goal.returns-in_err-sync-clause-others
returns-in_err-sync-clause-others g c told = (sync-read g (goal.at.returns-in_err-sync-clause-others g c).After-sync told).others

pub returns-clause-crash : goal.returns-clause-crash
returns-clause-crash g c = sync-left g (goal.at.returns-clause-crash g c).After-sync

pub returns-clause-reads : goal.returns-clause-reads
returns-clause-reads g c = sync-read g (goal.at.returns-clause-reads g c).After-sync

pub returns-clause-others : goal.returns-clause-others
returns-clause-others g c told = (sync-read g (goal.at.returns-clause-others g c).After-sync told).others

pub returns-clause-emptied : goal.returns-clause-emptied
returns-clause-emptied g c told =
    let r = ready g (before-cut g (goal.at.returns-clause-emptied g c).After-cut) in
    let t1 : IsTrue (g.V.Volume.tells c.if-not-is_there.volume) = rw r.tells_on told in
    let t2 : IsTrue (g.V.Volume.tells c.cut.new.self) = rw c.cut.ensures.stays.tells t1 in
    ap (λ (f : Files). get f c.args.file) (c.sync.ensures.same t2) ∙ put_there _ _ c.args.file [] (c.in_ok-cut.ensures.shortened t1)

pub returns-clause-durable : goal.returns-clause-durable
returns-clause-durable g c told left i =
    let r = ready g (before-cut g (goal.at.returns-clause-durable g c).After-cut) in
    let t1 : IsTrue (g.V.Volume.tells c.if-not-is_there.volume) = rw r.tells_on told in
    let t2 : IsTrue (g.V.Volume.tells c.cut.new.self) = rw c.cut.ensures.stays.tells t1 in
    c.in_ok-sync.ensures.durable t2 left i ∙ put_there _ _ c.args.file [] (c.in_ok-cut.ensures.shortened t1)

pub returns-clause-settled : goal.returns-clause-settled
returns-clause-settled g c told fine =
    settled_by c.args.file _ _ _ _ _ _ _ (returns-clause-crash g c told) (returns-clause-others g c told)
    (λ left i. returns-clause-durable g c told left i ∙ sym (returns-clause-emptied g c told))
