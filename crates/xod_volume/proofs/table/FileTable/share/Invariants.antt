use Rattle.std.proofs.Common.{◌≡◌, take}
use Rattle.xod_volume.specs.Leases.{lent_of}
use Rattle.xod_volume.proofs.table.FileTable.share.Given as goal

abbrev pub invariant-loop-file : goal.invariant-loop-file
invariant-loop-file l = (l.shared ≡ lent_of (take l.file-index l.list) l.fn.self) × (l.self ≡ l.fn.self)
