-- Which bodies of log files a lease has, and what a read of it leaves.
use base.Fml.{GName}
use Rattle.std.specs.Prelude.{◌≡◌, ◌≤◌, ℕ, ◌*◌, Bool, List}
use Rattle.xod_block.specs.Bodies.{Bodies}
use Rattle.xod_volume.specs.Files.{Files, bytes_of}

-- The body of each log file: it is the volume file with twice its number. One that was not lent has no byte.
abbrev pub lent_bodies : Files → Bodies
lent_bodies files file = bytes_of files (2 * file)

-- Nothing of a lease changed but how often it was read and how often it failed, which has not fallen. The members are
-- those of its trait.
pub record KeepsLease {L : Type 0} (tells : L → Bool) (list : L → List ℕ) (lent : L → Files) (refs : L → List GName) (faults : L → ℕ) (before now : L) : Type 0 where
  pub tells_same : tells now ≡ tells before
  pub list_same : list now ≡ list before
  pub lent_same : lent now ≡ lent before
  pub refs_same : refs now ≡ refs before
  pub never_falls : faults before ≤ faults now
