use Rattle.std.proofs.Common.{◌≡◌, ℕ, ◌<◌}
use Rattle.std.specs.FinMap.{empty}
use Rattle.xod_overlay.specs.Marks.{touched}
use Rattle.xod_overlay.proofs.overlay.are_untouched.Given as goal

abbrev pub invariant-loop-keys : goal.invariant-loop-keys
invariant-loop-keys l = (n : ℕ) → n < l.keys-index → touched l.trees n ≡ empty
