use Rattle.std.proofs.Common.{IsTrue, Err, length, ◌∙◌, ap, sym}
use Rattle.std.specs.FinMap.{get}
use Rattle.xod_volume.specs.Files.{Files, size_of}
use Rattle.xod_volume.specs.Crash.{OnFile, OnBytes, Torn}
use Rattle.xod_log.proofs.Appending.{memory_only}
use Rattle.xod_log.proofs.Synced.{put_is_there, same_after, settled_by, settled_still, torn_then_synced}
use Rattle.xod_log.proofs.device.append_synced.Goals as goal

pub returns-in_err-append-clause-others : goal.returns-in_err-append-clause-others
returns-in_err-append-clause-others g c told other apart = (c.append.ensures.torn told).others other apart

pub sync-requires : goal.sync-requires
sync-requires g c = record { exists = λ t. put_is_there _ _ c.args.file _ (c.in_ok-append.ensures.appended (rw c.append.ensures.stays.tells at t)) }

pub returns-in_err-sync-clause-others : goal.returns-in_err-sync-clause-others
returns-in_err-sync-clause-others g c told other apart =
    let t1 : IsTrue (g.V.Volume.tells c.append.new.self) = rw c.append.ensures.stays.tells told in
    ap (λ (f : Files). get f other) (c.sync.ensures.same t1) ∙ (c.append.ensures.torn told).others other apart

pub returns-in_err-sync-clause-crash : goal.returns-in_err-sync-clause-crash
returns-in_err-sync-clause-crash g c told =
    let t1 : IsTrue (g.V.Volume.tells c.append.new.self) = rw c.append.ensures.stays.tells told in
    torn_then_synced _ _ _ _ _ _ c.args.file _ _ (c.append.ensures.crash told) (c.sync.ensures.crash t1)

pub returns-clause-others : goal.returns-clause-others
returns-clause-others g c told other apart =
    let t1 : IsTrue (g.V.Volume.tells c.append.new.self) = rw c.append.ensures.stays.tells told in
    ap (λ (f : Files). get f other) (c.sync.ensures.same t1) ∙ (c.append.ensures.torn told).others other apart

pub returns-clause-crash : goal.returns-clause-crash
returns-clause-crash g c told =
    let t1 : IsTrue (g.V.Volume.tells c.append.new.self) = rw c.append.ensures.stays.tells told in
    torn_then_synced _ _ _ _ _ _ c.args.file _ _ (c.append.ensures.crash told) (c.sync.ensures.crash t1)

pub returns-clause-durable : goal.returns-clause-durable
returns-clause-durable g c told left i =
    let t1 : IsTrue (g.V.Volume.tells c.append.new.self) = rw c.append.ensures.stays.tells told in
    c.in_ok-sync.ensures.durable t1 left i ∙ sym (ap (λ (f : Files). get f c.args.file) (c.sync.ensures.same t1))

pub returns-in_err-sync-clause-torn : goal.returns-in_err-sync-clause-torn
returns-in_err-sync-clause-torn g c told =
    let t1 : IsTrue (g.V.Volume.tells c.append.new.self) = rw c.append.ensures.stays.tells told in
    same_after (OnFile c.args.file (OnBytes (Torn (size_of (g.V.Volume.files c.args.volume.now) c.args.file) (length c.args.bytes.now)))) _ _ _ (c.append.ensures.torn told) (c.sync.ensures.same t1)

pub returns-clause-torn : goal.returns-clause-torn
returns-clause-torn g c told =
    let t1 : IsTrue (g.V.Volume.tells c.append.new.self) = rw c.append.ensures.stays.tells told in
    same_after (OnFile c.args.file (OnBytes (Torn (size_of (g.V.Volume.files c.args.volume.now) c.args.file) (length c.args.bytes.now)))) _ _ _ (c.append.ensures.torn told) (c.sync.ensures.same t1)

pub returns-in_err-append-clause-settled : goal.returns-in_err-append-clause-settled
returns-in_err-append-clause-settled g c told fine =
    let memory = c.in_err-append.was {u = tt} ∙ ap (λ e. Err e) (memory_only c.in_err-append.field-0.0 c.from_residual.result c.from_residual.ensures.1 fine) in
    settled_still _ _ _ _ _ _ _ (c.append.ensures.unchanged told memory) (c.append.ensures.memory memory).moment (c.append.ensures.crash told)

pub returns-clause-settled : goal.returns-clause-settled
returns-clause-settled g c told fine =
    settled_by c.args.file _ _ _ _ _ _ _ (returns-clause-crash g c told) (returns-clause-others g c told) (returns-clause-durable g c told)
