use Rattle.std.proofs.Common.{IsTrue, length, sym, subst, ap, ◌∙◌}
use Rattle.std.specs.FinMap.{get}
use Rattle.xod_volume.specs.Files.{Files}
use Rattle.xod_volume.specs.Crash.{OnFile, OnBytes, Torn}
use Rattle.xod_log.proofs.CallerLemmas.{put_is_there}
use Rattle.xod_recover.proofs.CutReads.{torn_then_synced}
use Rattle.xod_recover.proofs.tail.write_synced.Goals as goal

pub sync-requires : goal.sync-requires
sync-requires g c = record { exists = λ t. put_is_there _ _ c.args.file _ (c.in_ok-write_at.ensures.written (rw c.write_at.ensures.stays.tells at t)) }

pub returns-in_err-sync-clause-crash : goal.returns-in_err-sync-clause-crash
returns-in_err-sync-clause-crash g c told =
    let t1 : IsTrue (g.V.Volume.tells c.write_at.new.self) = rw c.write_at.ensures.stays.tells told in
    torn_then_synced _ _ _ _ _ _ c.args.file _ _ (c.write_at.ensures.crash told) (c.sync.ensures.crash t1)

pub returns-clause-crash : goal.returns-clause-crash
returns-clause-crash g c told =
    let t1 : IsTrue (g.V.Volume.tells c.write_at.new.self) = rw c.write_at.ensures.stays.tells told in
    torn_then_synced _ _ _ _ _ _ c.args.file _ _ (c.write_at.ensures.crash told) (c.sync.ensures.crash t1)

pub returns-clause-durable : goal.returns-clause-durable
returns-clause-durable g c told left i =
    let t1 : IsTrue (g.V.Volume.tells c.write_at.new.self) = rw c.write_at.ensures.stays.tells told in
    c.in_ok-sync.ensures.durable t1 left i ∙ sym (ap (λ (f : Files). get f c.args.file) (c.sync.ensures.same t1))

pub returns-in_err-write_at-clause-others : goal.returns-in_err-write_at-clause-others
returns-in_err-write_at-clause-others g c told = (c.write_at.ensures.torn told).others

pub returns-in_err-sync-clause-others : goal.returns-in_err-sync-clause-others
returns-in_err-sync-clause-others g c told other apart =
    let t1 : IsTrue (g.V.Volume.tells c.write_at.new.self) = rw c.write_at.ensures.stays.tells told in
    ap (λ (f : Files). get f other) (c.sync.ensures.same t1) ∙ (c.write_at.ensures.torn told).others other apart

pub returns-clause-others : goal.returns-clause-others
returns-clause-others g c told other apart =
    let t1 : IsTrue (g.V.Volume.tells c.write_at.new.self) = rw c.write_at.ensures.stays.tells told in
    ap (λ (f : Files). get f other) (c.sync.ensures.same t1) ∙ (c.write_at.ensures.torn told).others other apart

pub returns-in_err-sync-clause-reads : goal.returns-in_err-sync-clause-reads
returns-in_err-sync-clause-reads g c told =
    let t1 : IsTrue (g.V.Volume.tells c.write_at.new.self) = rw c.write_at.ensures.stays.tells told in
    subst (λ (f : Files). OnFile c.args.file (OnBytes (Torn c.args.at (length c.args.bytes.now))) (g.V.Volume.files c.args.volume.now) f) (sym (c.sync.ensures.same t1)) (c.write_at.ensures.torn told)

pub returns-clause-reads : goal.returns-clause-reads
returns-clause-reads g c told =
    let t1 : IsTrue (g.V.Volume.tells c.write_at.new.self) = rw c.write_at.ensures.stays.tells told in
    subst (λ (f : Files). OnFile c.args.file (OnBytes (Torn c.args.at (length c.args.bytes.now))) (g.V.Volume.files c.args.volume.now) f) (sym (c.sync.ensures.same t1)) (c.write_at.ensures.torn told)
