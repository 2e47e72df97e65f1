use Rattle.std.proofs.Common.{refl}
use Rattle.xod_volume.specs.Crash.{IsSame}
use Rattle.xod_volume.specs.declared.history.Deed.TheVariants.{Sync, Nothing}
use Rattle.xod_volume.proofs.Steps.{kept, idle_passes, sync_passes, sync_lasts, fail_passes, fail_left}
use Rattle.xod_volume.proofs.memory.MemoryVolumeVolume.sync.Goals as goal

pub returns-then-fails-clause-crash : goal.returns-then-fails-clause-crash
returns-then-fails-clause-crash c told =
    fail_passes c.args.self.now.disk.start c.fail.new.self.start c.args.self.now.disk.calls.items c.fail.new.self.calls.items c.fail.ensures.start (record { file = c.args.file; deed = Nothing }) c.fail.ensures.calls refl (IsSame) (λ c. refl)

pub returns-then-fails-clause-may_be_kept : goal.returns-then-fails-clause-may_be_kept
returns-then-fails-clause-may_be_kept c told =
    kept _ _ _ c.fail.new.self.agrees

pub returns-then-sync-clause-durable : goal.returns-then-sync-clause-durable
returns-then-sync-clause-durable c told =
    sync_lasts c.args.self.now.disk.start c.sync.new.self.start c.args.self.now.disk.calls.items c.sync.new.self.calls.items c.sync.ensures.start (record { file = c.args.file; deed = Sync }) c.if-sync.ensures.calls refl c.args.self.now.disk.table c.args.self.now.disk.agrees

pub returns-then-sync-clause-crash : goal.returns-then-sync-clause-crash
returns-then-sync-clause-crash c told =
    sync_passes c.args.self.now.disk.start c.sync.new.self.start c.args.self.now.disk.calls.items c.sync.new.self.calls.items c.sync.ensures.start (record { file = c.args.file; deed = Sync }) c.if-sync.ensures.calls refl

pub returns-then-sync-clause-may_be_kept : goal.returns-then-sync-clause-may_be_kept
returns-then-sync-clause-may_be_kept c told =
    kept _ _ _ c.sync.new.self.agrees

pub returns-else-sync-clause-crash : goal.returns-else-sync-clause-crash
returns-else-sync-clause-crash c told =
    idle_passes c.args.self.now.disk.start c.sync.new.self.start c.args.self.now.disk.calls.items c.sync.new.self.calls.items c.sync.ensures.start c.if-sync.ensures.calls (IsSame) (λ c. refl)

pub returns-else-sync-clause-may_be_kept : goal.returns-else-sync-clause-may_be_kept
returns-else-sync-clause-may_be_kept c told =
    kept _ _ _ c.sync.new.self.agrees

pub returns-then-fails-clause-not_yet_safe : goal.returns-then-fails-clause-not_yet_safe
returns-then-fails-clause-not_yet_safe c told =
    fail_left c.args.self.now.disk.start c.fail.new.self.start c.args.self.now.disk.calls.items c.fail.new.self.calls.items c.fail.ensures.start (record { file = c.args.file; deed = Nothing }) c.fail.ensures.calls (λ o i. i)
