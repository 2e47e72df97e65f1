use Rattle.std.proofs.Common.{length, refl, sym, ◌∙◌, subst, arith}
use Rattle.std.specs.FinMap.{get}
use Rattle.xod_volume.specs.Files.{Files, overwritten}
use Rattle.xod_volume.specs.Crash.{OnFile, OnBytes, Torn}
use Rattle.xod_volume.specs.declared.history.Deed.TheVariants.{WriteAt, Tear}
use Rattle.xod_volume.proofs.OneFile.{OnBytes-torn, OnBytes-write}
use Rattle.xod_volume.proofs.AllFiles.{OnFile-changed}
use Rattle.xod_volume.proofs.Agrees.{with_changed}
use Rattle.xod_volume.proofs.Steps.{kept, step_passes, step_left, torn_passes, fail_left, torn_left}
use Rattle.xod_volume.proofs.memory.MemoryVolumeVolume.write_at.Goals as goal

pub returns-then-fails-clause-crash : goal.returns-then-fails-clause-crash
returns-then-fails-clause-crash c told =
    torn_passes c.args.self.now.disk.start c.fail.new.self.start c.args.self.now.disk.calls.items c.fail.new.self.calls.items c.fail.ensures.start (record { file = c.args.file; deed = Tear c.args.at (length c.args.bytes.now) }) c.fail.ensures.calls c.args.at (length c.args.bytes.now) refl

pub returns-then-fails-clause-not_yet_safe : goal.returns-then-fails-clause-not_yet_safe
returns-then-fails-clause-not_yet_safe c told =
    fail_left c.args.self.now.disk.start c.fail.new.self.start c.args.self.now.disk.calls.items c.fail.new.self.calls.items c.fail.ensures.start (record { file = c.args.file; deed = Tear c.args.at (length c.args.bytes.now) }) c.fail.ensures.calls (λ o i. (o, i, OnBytes-torn c.args.at (length c.args.bytes.now) o))

pub returns-then-fails-clause-may_be_kept : goal.returns-then-fails-clause-may_be_kept
returns-then-fails-clause-may_be_kept c told =
    kept _ _ _ c.fail.new.self.agrees

pub returns-then-write_or_tear-clause-crash : goal.returns-then-write_or_tear-clause-crash
returns-then-write_or_tear-clause-crash c told =
    step_passes c.args.self.now.disk.start c.write_or_tear.new.self.start c.args.self.now.disk.calls.items c.write_or_tear.new.self.calls.items c.write_or_tear.ensures.start (record { file = c.args.file; deed = WriteAt c.args.at c.args.bytes.now }) c.if-write_or_tear.ensures.calls (OnBytes (Torn c.args.at (length c.args.bytes.now))) (OnBytes-torn c.args.at (length c.args.bytes.now)) (λ o i. i)

pub returns-then-write_or_tear-clause-not_yet_safe : goal.returns-then-write_or_tear-clause-not_yet_safe
returns-then-write_or_tear-clause-not_yet_safe c told =
    step_left c.args.self.now.disk.start c.write_or_tear.new.self.start c.args.self.now.disk.calls.items c.write_or_tear.new.self.calls.items c.write_or_tear.ensures.start (record { file = c.args.file; deed = WriteAt c.args.at c.args.bytes.now }) c.if-write_or_tear.ensures.calls (λ o i. (o, i, OnBytes-torn c.args.at (length c.args.bytes.now) o))

pub returns-then-write_or_tear-clause-may_be_kept : goal.returns-then-write_or_tear-clause-may_be_kept
returns-then-write_or_tear-clause-may_be_kept c told =
    kept _ _ _ c.write_or_tear.new.self.agrees

pub returns-else-write_or_tear-clause-crash : goal.returns-else-write_or_tear-clause-crash
returns-else-write_or_tear-clause-crash c told =
    torn_passes c.args.self.now.disk.start c.write_or_tear.new.self.start c.args.self.now.disk.calls.items c.write_or_tear.new.self.calls.items c.write_or_tear.ensures.start (record { file = c.args.file; deed = Tear c.args.at (length c.args.bytes.now) }) c.if-write_or_tear.ensures.calls c.args.at (length c.args.bytes.now) refl

pub returns-else-write_or_tear-clause-not_yet_safe : goal.returns-else-write_or_tear-clause-not_yet_safe
returns-else-write_or_tear-clause-not_yet_safe c told =
    fail_left c.args.self.now.disk.start c.write_or_tear.new.self.start c.args.self.now.disk.calls.items c.write_or_tear.new.self.calls.items c.write_or_tear.ensures.start (record { file = c.args.file; deed = Tear c.args.at (length c.args.bytes.now) }) c.if-write_or_tear.ensures.calls (λ o i. (o, i, OnBytes-torn c.args.at (length c.args.bytes.now) o))

pub returns-else-write_or_tear-clause-may_be_kept : goal.returns-else-write_or_tear-clause-may_be_kept
returns-else-write_or_tear-clause-may_be_kept c told =
    kept _ _ _ c.write_or_tear.new.self.agrees

pub returns-then-write_or_tear-clause-torn : goal.returns-then-write_or_tear-clause-torn
returns-then-write_or_tear-clause-torn c told =
    let F : Files = c.args.self.now.disk.table in
    subst (OnFile c.args.file (OnBytes (Torn c.args.at (length c.args.bytes.now))) F) (sym (c.if-write_or_tear.ensures.table ∙ with_changed F c.args.file (λ was. overwritten was c.args.at c.args.bytes.now) (get F c.args.file) (c.requires.exists told)))
    (OnFile-changed c.args.file (OnBytes (Torn c.args.at (length c.args.bytes.now))) F _ (OnBytes-write (get F c.args.file) c.args.at c.args.bytes.now))

pub returns-then-fails-clause-torn_may_be_left : goal.returns-then-fails-clause-torn_may_be_left
returns-then-fails-clause-torn_may_be_left c told bad room was left =
    torn_left c.args.self.now.disk.start c.fail.new.self.start c.args.self.now.disk.calls.items c.fail.new.self.calls.items c.fail.ensures.start (record { file = c.args.file; deed = Tear c.args.at (length c.args.bytes.now) }) (c.fail.ensures.noted (omega (arith, room))) c.args.at (length c.args.bytes.now) refl was left

pub returns-else-write_or_tear-clause-torn_may_be_left : goal.returns-else-write_or_tear-clause-torn_may_be_left
returns-else-write_or_tear-clause-torn_may_be_left c told bad room was left =
    torn_left c.args.self.now.disk.start c.write_or_tear.new.self.start c.args.self.now.disk.calls.items c.write_or_tear.new.self.calls.items c.write_or_tear.ensures.start (record { file = c.args.file; deed = Tear c.args.at (length c.args.bytes.now) }) (c.if-write_or_tear.ensures.noted (omega (arith, room))) c.args.at (length c.args.bytes.now) refl was left
