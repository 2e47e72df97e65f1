use Rattle.std.proofs.Common.{IsTrue, length, ◌∙◌, ap, sym}
use Rattle.std.specs.FinMap.{get}
use Rattle.xod_volume.specs.Files.{Files}
use Rattle.xod_volume.specs.Crash.{OnFile, OnBytes, Torn}
use Rattle.xod_log.proofs.Synced.{put_is_there, same_after, torn_then_synced}
use Rattle.xod_log.proofs.device.write_synced.Goals as goal

pub returns-in_err-write_at-clause-others : goal.returns-in_err-write_at-clause-others
returns-in_err-write_at-clause-others g c told other apart = (c.write_at.ensures.torn told).others other apart

pub sync-requires : goal.sync-requires
sync-requires g c = record { exists = λ t. put_is_there _ _ c.args.file _ (c.in_ok-write_at.ensures.written (rw c.write_at.ensures.stays.tells at t)) }

pub returns-in_err-sync-clause-others : goal.returns-in_err-sync-clause-others
returns-in_err-sync-clause-others g c told other apart =
    let t1 : IsTrue (g.V.Volume.tells c.write_at.new.self) = rw c.write_at.ensures.stays.tells told in
    ap (λ (f : Files). get f other) (c.sync.ensures.same t1) ∙ (c.write_at.ensures.torn told).others other apart

pub returns-in_err-sync-clause-crash : goal.returns-in_err-sync-clause-crash
returns-in_err-sync-clause-crash g c told =
    let t1 : IsTrue (g.V.Volume.tells c.write_at.new.self) = rw c.write_at.ensures.stays.tells told in
    torn_then_synced _ _ _ _ _ _ c.args.file _ _ (c.write_at.ensures.crash told) (c.sync.ensures.crash t1)

pub returns-clause-others : goal.returns-clause-others
returns-clause-others g c told other apart =
    let t1 : IsTrue (g.V.Volume.tells c.write_at.new.self) = rw c.write_at.ensures.stays.tells told in
    ap (λ (f : Files). get f other) (c.sync.ensures.same t1) ∙ (c.write_at.ensures.torn told).others other apart

pub returns-clause-crash : goal.returns-clause-crash
returns-clause-crash g c told =
    let t1 : IsTrue (g.V.Volume.tells c.write_at.new.self) = rw c.write_at.ensures.stays.tells told in
    torn_then_synced _ _ _ _ _ _ c.args.file _ _ (c.write_at.ensures.crash told) (c.sync.ensures.crash t1)

pub returns-in_err-sync-clause-torn : goal.returns-in_err-sync-clause-torn
returns-in_err-sync-clause-torn g c told =
    let t1 : IsTrue (g.V.Volume.tells c.write_at.new.self) = rw c.write_at.ensures.stays.tells told in
    same_after (OnFile c.args.file (OnBytes (Torn c.args.at (length c.args.bytes.now)))) _ _ _ (c.write_at.ensures.torn told) (c.sync.ensures.same t1)

pub returns-clause-torn : goal.returns-clause-torn
returns-clause-torn g c told =
    let t1 : IsTrue (g.V.Volume.tells c.write_at.new.self) = rw c.write_at.ensures.stays.tells told in
    same_after (OnFile c.args.file (OnBytes (Torn c.args.at (length c.args.bytes.now)))) _ _ _ (c.write_at.ensures.torn told) (c.sync.ensures.same t1)

pub returns-clause-durable : goal.returns-clause-durable
returns-clause-durable g c told left i =
    let t1 : IsTrue (g.V.Volume.tells c.write_at.new.self) = rw c.write_at.ensures.stays.tells told in
    c.in_ok-sync.ensures.durable t1 left i ∙ sym (ap (λ (f : Files). get f c.args.file) (c.sync.ensures.same t1))
