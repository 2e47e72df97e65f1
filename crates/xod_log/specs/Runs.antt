-- How the images go over several calls of a volume, one after another.
use Rattle.std.specs.Prelude.{ℕ}
use Rattle.xod_volume.specs.Files.{Files}
use Rattle.xod_volume.specs.Crash.{Passes}

-- Since a moment each image is one of that moment after the step, and each present one has `now` to one of that moment.
pub record Run (start end : ℕ) (past images : ℕ → Files → Type 0) (step now : Files → Files → Type 0) : Type 0 where
  pub passes : Passes start end past images step
  pub present : (left : Files) → images end left → (was : Files) × past start was × now was left
