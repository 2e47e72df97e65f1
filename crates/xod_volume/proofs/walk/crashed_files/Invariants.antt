use Rattle.std.proofs.Common.{◌≡◌, ℕ, take, reverse, cond, None}
use Rattle.std.specs.FinMap.{get}
use Rattle.xod_volume.specs.Leases.{names}
use Rattle.xod_volume.specs.Record.{on_file, crashed}
use Rattle.xod_volume.proofs.walk.crashed_files.Given as goal

abbrev pub invariant-loop-file : goal.invariant-loop-file
invariant-loop-file l =
    (file : ℕ) → get l.files file ≡ cond (names (take l.file-index l.file-items) file) (crashed l.choice (get l.start file) (on_file file (reverse l.calls))) None
