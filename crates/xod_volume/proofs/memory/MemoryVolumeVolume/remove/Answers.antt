use Rattle.std.proofs.Common.{reverse, refl, inl, inr}
use Rattle.std.specs.FinMap.{get}
use Rattle.xod_volume.specs.Crash.{OnFile, Vanishes}
use Rattle.xod_volume.specs.declared.history.Deed.TheVariants.{Remove, Nothing}
use Rattle.xod_volume.specs.Record.{reads, synced, on_file}
use Rattle.xod_volume.proofs.OneFile.{reads_left, synced_left}
use Rattle.xod_volume.proofs.AllFiles.{OnFile-same}
use Rattle.xod_volume.proofs.Steps.{kept, idle_passes, step_passes, fail_passes, fail_left}
use Rattle.xod_volume.proofs.memory.MemoryVolumeVolume.remove.Goals as goal

pub returns-then-fails-clause-crash : goal.returns-then-fails-clause-crash
returns-then-fails-clause-crash c told =
    fail_passes c.args.self.now.disk.start c.fail.new.self.start c.args.self.now.disk.calls.items c.fail.new.self.calls.items c.fail.ensures.start (record { file = c.args.file; deed = Nothing }) c.fail.ensures.calls refl (OnFile c.args.file Vanishes) (OnFile-same c.args.file Vanishes (λ o. inl refl))

pub returns-then-fails-clause-may_be_kept : goal.returns-then-fails-clause-may_be_kept
returns-then-fails-clause-may_be_kept c told =
    kept _ _ _ c.fail.new.self.agrees

pub returns-then-remove-clause-crash : goal.returns-then-remove-clause-crash
returns-then-remove-clause-crash c told =
    step_passes c.args.self.now.disk.start c.remove.new.self.start c.args.self.now.disk.calls.items c.remove.new.self.calls.items c.remove.ensures.start (record { file = c.args.file; deed = Remove }) c.if-remove.ensures.calls (Vanishes) (λ o. inl refl) (λ o i. elim i [ inl gone ↦ (reads (get c.args.self.now.disk.start c.args.file) (on_file c.args.file (reverse c.args.self.now.disk.calls.items)), reads_left (get c.args.self.now.disk.start c.args.file) (on_file c.args.file (reverse c.args.self.now.disk.calls.items)), inr gone) | inr back ↦ (synced (get c.args.self.now.disk.start c.args.file) (on_file c.args.file (reverse c.args.self.now.disk.calls.items)), synced_left (get c.args.self.now.disk.start c.args.file) (on_file c.args.file (reverse c.args.self.now.disk.calls.items)), inl back) ])

pub returns-then-remove-clause-may_be_kept : goal.returns-then-remove-clause-may_be_kept
returns-then-remove-clause-may_be_kept c told =
    kept _ _ _ c.remove.new.self.agrees

pub returns-else-remove-clause-crash : goal.returns-else-remove-clause-crash
returns-else-remove-clause-crash c told =
    idle_passes c.args.self.now.disk.start c.remove.new.self.start c.args.self.now.disk.calls.items c.remove.new.self.calls.items c.remove.ensures.start c.if-remove.ensures.calls (OnFile c.args.file Vanishes) (OnFile-same c.args.file Vanishes (λ o. inl refl))

pub returns-else-remove-clause-may_be_kept : goal.returns-else-remove-clause-may_be_kept
returns-else-remove-clause-may_be_kept c told =
    kept _ _ _ c.remove.new.self.agrees

pub returns-then-fails-clause-not_yet_safe : goal.returns-then-fails-clause-not_yet_safe
returns-then-fails-clause-not_yet_safe c told =
    fail_left c.args.self.now.disk.start c.fail.new.self.start c.args.self.now.disk.calls.items c.fail.new.self.calls.items c.fail.ensures.start (record { file = c.args.file; deed = Nothing }) c.fail.ensures.calls (λ o i. i)
