use Rattle.std.proofs.Common.{◌≡◌, ℕ, [], take, reverse, false, None}
use Rattle.std.specs.FinMap.{get}
use Rattle.xod_volume.specs.Leases.{names}
use Rattle.xod_volume.specs.Record.{on_file}
use Rattle.xod_volume.proofs.walk.numbers_in.Given as goal

abbrev pub invariant-loop-call : goal.invariant-loop-call
invariant-loop-call l =
    (file : ℕ) → names l.numbers.items file ≡ false → (get l.start file ≡ None) × (on_file file (reverse (take l.call-index l.calls)) ≡ [])
