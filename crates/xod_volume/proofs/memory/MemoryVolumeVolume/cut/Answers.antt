use Rattle.std.proofs.Common.{refl}
use Rattle.xod_volume.specs.Crash.{OnFile, OnBytes, Shortened}
use Rattle.xod_volume.specs.declared.history.Deed.TheVariants.{Cut, Nothing}
use Rattle.xod_volume.proofs.OneFile.{OnBytes-shortened}
use Rattle.xod_volume.proofs.AllFiles.{OnFile-same}
use Rattle.xod_volume.proofs.Steps.{kept, idle_passes, step_passes, step_left, fail_passes, fail_left}
use Rattle.xod_volume.proofs.memory.MemoryVolumeVolume.cut.Goals as goal

pub returns-then-fails-clause-crash : goal.returns-then-fails-clause-crash
returns-then-fails-clause-crash c told =
    fail_passes c.args.self.now.disk.start c.fail.new.self.start c.args.self.now.disk.calls.items c.fail.new.self.calls.items c.fail.ensures.start (record { file = c.args.file; deed = Nothing }) c.fail.ensures.calls refl (OnFile c.args.file (OnBytes (Shortened c.args.length))) (OnFile-same c.args.file (OnBytes (Shortened c.args.length)) (OnBytes-shortened c.args.length))

pub returns-then-fails-clause-not_yet_safe : goal.returns-then-fails-clause-not_yet_safe
returns-then-fails-clause-not_yet_safe c told =
    fail_left c.args.self.now.disk.start c.fail.new.self.start c.args.self.now.disk.calls.items c.fail.new.self.calls.items c.fail.ensures.start (record { file = c.args.file; deed = Nothing }) c.fail.ensures.calls (λ o i. i)

pub returns-then-fails-clause-may_be_kept : goal.returns-then-fails-clause-may_be_kept
returns-then-fails-clause-may_be_kept c told =
    kept _ _ _ c.fail.new.self.agrees

pub returns-then-cut-clause-crash : goal.returns-then-cut-clause-crash
returns-then-cut-clause-crash c told =
    step_passes c.args.self.now.disk.start c.cut.new.self.start c.args.self.now.disk.calls.items c.cut.new.self.calls.items c.cut.ensures.start (record { file = c.args.file; deed = Cut c.args.length }) c.if-cut.ensures.calls (OnBytes (Shortened c.args.length)) (OnBytes-shortened c.args.length) (λ o i. i)

pub returns-then-cut-clause-not_yet_safe : goal.returns-then-cut-clause-not_yet_safe
returns-then-cut-clause-not_yet_safe c told =
    step_left c.args.self.now.disk.start c.cut.new.self.start c.args.self.now.disk.calls.items c.cut.new.self.calls.items c.cut.ensures.start (record { file = c.args.file; deed = Cut c.args.length }) c.if-cut.ensures.calls (λ o i. (o, i, OnBytes-shortened c.args.length o))

pub returns-then-cut-clause-may_be_kept : goal.returns-then-cut-clause-may_be_kept
returns-then-cut-clause-may_be_kept c told =
    kept _ _ _ c.cut.new.self.agrees

pub returns-else-cut-clause-crash : goal.returns-else-cut-clause-crash
returns-else-cut-clause-crash c told =
    idle_passes c.args.self.now.disk.start c.cut.new.self.start c.args.self.now.disk.calls.items c.cut.new.self.calls.items c.cut.ensures.start c.if-cut.ensures.calls (OnFile c.args.file (OnBytes (Shortened c.args.length))) (OnFile-same c.args.file (OnBytes (Shortened c.args.length)) (OnBytes-shortened c.args.length))

pub returns-else-cut-clause-may_be_kept : goal.returns-else-cut-clause-may_be_kept
returns-else-cut-clause-may_be_kept c told =
    kept _ _ _ c.cut.new.self.agrees
