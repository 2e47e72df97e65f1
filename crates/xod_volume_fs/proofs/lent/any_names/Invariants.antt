use Rattle.std.proofs.Common.{◌≡◌, take, false}
use Rattle.xod_volume.specs.Leases.{holds_file}
use Rattle.xod_volume_fs.proofs.lent.any_names.Given as goal

abbrev pub invariant-loop-list : goal.invariant-loop-list
invariant-loop-list l = holds_file (take l.list-index l.lists) l.file ≡ false
