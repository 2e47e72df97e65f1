use Rattle.std.proofs.Common.{reverse, refl, inl, inr}
use Rattle.std.specs.FinMap.{get}
use Rattle.xod_volume.specs.Crash.{OnFile, Appears}
use Rattle.xod_volume.specs.declared.history.Deed.TheVariants.{Create, Nothing}
use Rattle.xod_volume.specs.Record.{reads, on_file}
use Rattle.xod_volume.proofs.OneFile.{reads_left}
use Rattle.xod_volume.proofs.AllFiles.{OnFile-same}
use Rattle.xod_volume.proofs.Steps.{kept, idle_passes, step_passes, step_left, fail_passes, fail_left}
use Rattle.xod_volume.proofs.memory.MemoryVolumeVolume.create.Goals as goal

pub returns-then-fails-clause-crash : goal.returns-then-fails-clause-crash
returns-then-fails-clause-crash c told =
    fail_passes c.args.self.now.disk.start c.fail.new.self.start c.args.self.now.disk.calls.items c.fail.new.self.calls.items c.fail.ensures.start (record { file = c.args.file; deed = Nothing }) c.fail.ensures.calls refl (OnFile c.args.file Appears) (OnFile-same c.args.file Appears (λ o. inl refl))

pub returns-then-fails-clause-not_yet_safe : goal.returns-then-fails-clause-not_yet_safe
returns-then-fails-clause-not_yet_safe c told =
    λ left i away. fail_left c.args.self.now.disk.start c.fail.new.self.start c.args.self.now.disk.calls.items c.fail.new.self.calls.items c.fail.ensures.start (record { file = c.args.file; deed = Nothing }) c.fail.ensures.calls (λ o i. i) left i

pub returns-then-fails-clause-may_be_kept : goal.returns-then-fails-clause-may_be_kept
returns-then-fails-clause-may_be_kept c told =
    kept _ _ _ c.fail.new.self.agrees

pub returns-clause-crash : goal.returns-clause-crash
returns-clause-crash c told =
    step_passes c.args.self.now.disk.start c.create.new.self.start c.args.self.now.disk.calls.items c.create.new.self.calls.items c.create.ensures.start (record { file = c.args.file; deed = Create }) c.in_ok-create.ensures.calls (Appears) (λ o. inl refl) (λ o i. elim i [ inl before ↦ (o, before, inl refl) | inr fresh ↦ (reads (get c.args.self.now.disk.start c.args.file) (on_file c.args.file (reverse c.args.self.now.disk.calls.items)), reads_left (get c.args.self.now.disk.start c.args.file) (on_file c.args.file (reverse c.args.self.now.disk.calls.items)), inr fresh) ])

pub returns-clause-not_yet_safe : goal.returns-clause-not_yet_safe
returns-clause-not_yet_safe c told =
    λ left i away. step_left c.args.self.now.disk.start c.create.new.self.start c.args.self.now.disk.calls.items c.create.new.self.calls.items c.create.ensures.start (record { file = c.args.file; deed = Create }) c.in_ok-create.ensures.calls (λ o i. inl i) left i

pub returns-clause-may_be_kept : goal.returns-clause-may_be_kept
returns-clause-may_be_kept c told =
    kept _ _ _ c.create.new.self.agrees

pub returns-in_err-create-clause-crash : goal.returns-in_err-create-clause-crash
returns-in_err-create-clause-crash c told =
    idle_passes c.args.self.now.disk.start c.create.new.self.start c.args.self.now.disk.calls.items c.create.new.self.calls.items c.create.ensures.start c.in_err-create.ensures.calls_same (OnFile c.args.file Appears) (OnFile-same c.args.file Appears (λ o. inl refl))

pub returns-in_err-create-clause-may_be_kept : goal.returns-in_err-create-clause-may_be_kept
returns-in_err-create-clause-may_be_kept c told =
    kept _ _ _ c.create.new.self.agrees
