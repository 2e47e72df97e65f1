use Rattle.std.proofs.Common.{vec_capacity, ◌++◌, ℕ, length, reverse, refl, sym, ◌∙◌, ap, subst, ◌<◌, arith}
use Rattle.std.specs.FinMap.{get}
use Rattle.xod_volume.specs.Files.{Files, Content, bytes_in, size_of}
use Rattle.xod_volume.specs.Crash.{OnFile, OnBytes, Torn}
use Rattle.xod_volume.specs.declared.history.Deed.TheVariants.{Append, Tear}
use Rattle.xod_volume.specs.Record.{Leaves, By, on_file, MayAdd, Adds}
use Rattle.xod_volume.proofs.OneFile.{OnBytes-torn, OnBytes-append}
use Rattle.xod_volume.proofs.AllFiles.{OnFile-same, OnFile-changed, reads_now}
use Rattle.xod_volume.proofs.Agrees.{with_changed}
use Rattle.xod_volume.proofs.Steps.{kept, idle_passes, step_passes, step_left, torn_passes, fail_left, torn_left}
use Rattle.xod_volume.proofs.memory.MemoryVolumeVolume.append.Goals as goal

pub returns-then-fails-clause-crash : goal.returns-then-fails-clause-crash
returns-then-fails-clause-crash c told =
    torn_passes c.args.self.now.disk.start c.fail.new.self.start c.args.self.now.disk.calls.items c.fail.new.self.calls.items c.fail.ensures.start (record { file = c.args.file; deed = Tear (size_of c.args.self.now.disk.table c.args.file) (length c.args.bytes.now) }) (subst (λ (k : ℕ). MayAdd (record { file = c.args.file; deed = Tear k (length c.args.bytes.now) }) c.args.self.now.disk.calls.items c.fail.new.self.calls.items) c.size-end.ensures c.fail.ensures.calls) (size_of c.args.self.now.disk.table c.args.file) (length c.args.bytes.now) refl

pub returns-then-fails-clause-not_yet_safe : goal.returns-then-fails-clause-not_yet_safe
returns-then-fails-clause-not_yet_safe c told =
    fail_left c.args.self.now.disk.start c.fail.new.self.start c.args.self.now.disk.calls.items c.fail.new.self.calls.items c.fail.ensures.start (record { file = c.args.file; deed = Tear (size_of c.args.self.now.disk.table c.args.file) (length c.args.bytes.now) }) (subst (λ (k : ℕ). MayAdd (record { file = c.args.file; deed = Tear k (length c.args.bytes.now) }) c.args.self.now.disk.calls.items c.fail.new.self.calls.items) c.size-end.ensures c.fail.ensures.calls) (λ o i. (o, i, OnBytes-torn (size_of c.args.self.now.disk.table c.args.file) (length c.args.bytes.now) o))

pub returns-then-fails-clause-may_be_kept : goal.returns-then-fails-clause-may_be_kept
returns-then-fails-clause-may_be_kept c told =
    kept _ _ _ c.fail.new.self.agrees

pub returns-clause-crash : goal.returns-clause-crash
returns-clause-crash c told =
    step_passes c.args.self.now.disk.start c.append.new.self.start c.args.self.now.disk.calls.items c.append.new.self.calls.items c.append.ensures.start (record { file = c.args.file; deed = Append c.args.bytes.now }) c.in_ok-append.ensures.calls (OnBytes (Torn (size_of c.args.self.now.disk.table c.args.file) (length c.args.bytes.now))) (OnBytes-torn (size_of c.args.self.now.disk.table c.args.file) (length c.args.bytes.now)) (λ o i. subst (λ (k : ℕ). By (OnBytes (Torn k (length c.args.bytes.now))) (Leaves (get c.args.self.now.disk.start c.args.file) (on_file c.args.file (reverse c.args.self.now.disk.calls.items))) o) (ap (λ (o : Content). length (bytes_in o)) (reads_now c.args.self.now.disk.start c.args.self.now.disk.calls.items _ (record { file = c.args.file; deed = Append c.args.bytes.now }) c.in_ok-append.ensures.calls ∙ ap (λ (G : Files). get G c.args.file) (sym c.args.self.now.disk.agrees))) i)

pub returns-clause-not_yet_safe : goal.returns-clause-not_yet_safe
returns-clause-not_yet_safe c told =
    step_left c.args.self.now.disk.start c.append.new.self.start c.args.self.now.disk.calls.items c.append.new.self.calls.items c.append.ensures.start (record { file = c.args.file; deed = Append c.args.bytes.now }) c.in_ok-append.ensures.calls (λ o i. (o, i, OnBytes-torn _ (length c.args.bytes.now) o))

pub returns-clause-may_be_kept : goal.returns-clause-may_be_kept
returns-clause-may_be_kept c told =
    kept _ _ _ c.append.new.self.agrees

pub returns-in_err-append-clause-crash : goal.returns-in_err-append-clause-crash
returns-in_err-append-clause-crash c told =
    idle_passes c.args.self.now.disk.start c.append.new.self.start c.args.self.now.disk.calls.items c.append.new.self.calls.items c.append.ensures.start c.in_err-append.ensures.calls_same (OnFile c.args.file (OnBytes (Torn (size_of c.args.self.now.disk.table c.args.file) (length c.args.bytes.now)))) (OnFile-same c.args.file (OnBytes (Torn (size_of c.args.self.now.disk.table c.args.file) (length c.args.bytes.now))) (OnBytes-torn (size_of c.args.self.now.disk.table c.args.file) (length c.args.bytes.now)))

pub returns-in_err-append-clause-may_be_kept : goal.returns-in_err-append-clause-may_be_kept
returns-in_err-append-clause-may_be_kept c told =
    kept _ _ _ c.append.new.self.agrees

pub returns-clause-torn : goal.returns-clause-torn
returns-clause-torn c told =
    let F : Files = c.args.self.now.disk.table in
    subst (OnFile c.args.file (OnBytes (Torn (size_of c.args.self.now.disk.table c.args.file) (length c.args.bytes.now))) F) (sym (c.in_ok-append.ensures.table ∙ with_changed F c.args.file (λ was. was ++ c.args.bytes.now) (get F c.args.file) (c.requires.exists told)))
    (OnFile-changed c.args.file (OnBytes (Torn (size_of c.args.self.now.disk.table c.args.file) (length c.args.bytes.now))) F _ (OnBytes-append (get F c.args.file) c.args.bytes.now))

pub returns-then-fails-clause-torn_may_be_left : goal.returns-then-fails-clause-torn_may_be_left
returns-then-fails-clause-torn_may_be_left c told bad room was left =
    torn_left c.args.self.now.disk.start c.fail.new.self.start c.args.self.now.disk.calls.items c.fail.new.self.calls.items c.fail.ensures.start (record { file = c.args.file; deed = Tear (size_of c.args.self.now.disk.table c.args.file) (length c.args.bytes.now) }) ((subst (λ (k : ℕ). length c.args.self.now.disk.calls.items < vec_capacity c.args.self.now.disk.calls → Adds (record { file = c.args.file; deed = Tear k (length c.args.bytes.now) }) c.args.self.now.disk.calls.items c.fail.new.self.calls.items) c.size-end.ensures c.fail.ensures.noted) (omega (arith, room))) (size_of c.args.self.now.disk.table c.args.file) (length c.args.bytes.now) refl was left
