-- What a call leaves that only reads a volume.
use base.Fml.{GName}
use Rattle.std.specs.Prelude.{◌≡◌, ℕ, Bool, IsTrue, List}
use Rattle.xod_volume.specs.Files.{Files}
use Rattle.xod_volume.specs.Crash.{Rests}
use Rattle.xod_volume.specs.Leases.{Stays}

-- Files and time are as before, and so is what a crash may leave. The count of faults has not fallen. The members are
-- those of the volume's trait.
pub record OnlyReads {V : Type 0} (tells : V → Bool) (files : V → Files) (moment : V → ℕ) (may_leave : V → ℕ → Files → Type 0) (leases : V → List (List ℕ)) (refs : V → List GName) (faults : V → ℕ) (old new : V) : Type 0 where
  pub stays : Stays (tells old) (tells new) (leases old) (leases new) (refs old) (refs new) (faults old) (faults new)
  pub same : IsTrue (tells old) → files new ≡ files old
  pub rests : IsTrue (tells old) → Rests (moment old) (moment new) (may_leave old) (may_leave new)
