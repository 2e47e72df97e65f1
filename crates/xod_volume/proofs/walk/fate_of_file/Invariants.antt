use Rattle.std.proofs.Common.{◌≡◌, take, reverse}
use Rattle.std.specs.FinMap.{get}
use Rattle.xod_volume.specs.Record.{fate_of, on_file}
use Rattle.xod_volume.proofs.walk.fate_of_file.Given as goal

abbrev pub invariant-loop-call : goal.invariant-loop-call
invariant-loop-call l = l.fate ≡ fate_of (get l.start l.file) (on_file l.file (reverse (take l.call-index l.calls)))
