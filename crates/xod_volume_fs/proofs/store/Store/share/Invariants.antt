use Rattle.std.proofs.Common.{take}
use Rattle.xod_volume_fs.specs.Kept.{kept_by, StayKept, LendsKept}
use Rattle.xod_volume_fs.proofs.store.Store.share.Given as goal

abbrev pub invariant-loop-file : goal.invariant-loop-file
invariant-loop-file g l =
    LendsKept (take l.file-index l.list) (kept_by l.self.folder) l.table × StayKept (kept_by l.fn.self.folder) (kept_by l.self.folder)
