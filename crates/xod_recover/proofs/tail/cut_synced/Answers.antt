use Rattle.std.proofs.Common.{IsTrue, sym, ap, ◌∙◌}
use Rattle.std.specs.FinMap.{get}
use Rattle.xod_volume.specs.Files.{Files}
use Rattle.xod_log.proofs.CallerLemmas.{put_is_there, other_file}
use Rattle.xod_recover.proofs.CutReads.{cut_then_synced}
use Rattle.xod_recover.proofs.Keeps.{cut-made, cut-refused}
use Rattle.xod_recover.proofs.tail.cut_synced.Goals as goal

pub sync-requires : goal.sync-requires
sync-requires g c = record { exists = λ t. put_is_there _ _ c.args.file _ (c.in_ok-cut.ensures.shortened (rw c.cut.ensures.stays.tells at t)) }

pub returns-in_err-sync-clause-crash : goal.returns-in_err-sync-clause-crash
returns-in_err-sync-clause-crash g c told =
    let t1 : IsTrue (g.V.Volume.tells c.cut.new.self) = rw c.cut.ensures.stays.tells told in
    cut_then_synced _ _ _ _ _ _ c.args.file _ (c.cut.ensures.crash told) (c.sync.ensures.crash t1)

pub returns-clause-crash : goal.returns-clause-crash
returns-clause-crash g c told =
    let t1 : IsTrue (g.V.Volume.tells c.cut.new.self) = rw c.cut.ensures.stays.tells told in
    cut_then_synced _ _ _ _ _ _ c.args.file _ (c.cut.ensures.crash told) (c.sync.ensures.crash t1)

pub returns-clause-durable : goal.returns-clause-durable
returns-clause-durable g c told left i =
    let t1 : IsTrue (g.V.Volume.tells c.cut.new.self) = rw c.cut.ensures.stays.tells told in
    c.in_ok-sync.ensures.durable t1 left i ∙ sym (ap (λ (f : Files). get f c.args.file) (c.sync.ensures.same t1))

pub returns-in_err-sync-clause-others : goal.returns-in_err-sync-clause-others
returns-in_err-sync-clause-others g c told other apart =
    let t1 : IsTrue (g.V.Volume.tells c.cut.new.self) = rw c.cut.ensures.stays.tells told in
    ap (λ (f : Files). get f other) (c.sync.ensures.same t1) ∙ other_file _ _ c.args.file other _ apart (c.in_ok-cut.ensures.shortened told)

pub returns-clause-others : goal.returns-clause-others
returns-clause-others g c told other apart =
    let t1 : IsTrue (g.V.Volume.tells c.cut.new.self) = rw c.cut.ensures.stays.tells told in
    ap (λ (f : Files). get f other) (c.sync.ensures.same t1) ∙ other_file _ _ c.args.file other _ apart (c.in_ok-cut.ensures.shortened told)

pub returns-in_err-cut-clause-reads : goal.returns-in_err-cut-clause-reads
returns-in_err-cut-clause-reads g c told = cut-refused _ _ c.args.file c.args.kept (c.in_err-cut.ensures.refused told)

pub returns-in_err-sync-clause-reads : goal.returns-in_err-sync-clause-reads
returns-in_err-sync-clause-reads g c told =
    let t1 : IsTrue (g.V.Volume.tells c.cut.new.self) = rw c.cut.ensures.stays.tells told in
    cut-made _ _ _ c.args.file c.args.kept (c.requires.exists told) (c.in_ok-cut.ensures.shortened told) (c.sync.ensures.same t1)

pub returns-clause-reads : goal.returns-clause-reads
returns-clause-reads g c told =
    let t1 : IsTrue (g.V.Volume.tells c.cut.new.self) = rw c.cut.ensures.stays.tells told in
    cut-made _ _ _ c.args.file c.args.kept (c.requires.exists told) (c.in_ok-cut.ensures.shortened told) (c.sync.ensures.same t1)
