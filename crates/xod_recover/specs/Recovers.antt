-- What an opening leaves of a volume, whatever it answers.
use base.Fml.{GName}
use Rattle.std.specs.Prelude.{◌≡◌, ℕ, Bool, IsTrue, is_some, List, Ok}
use Rattle.std.specs.FinMap.{get}
use Rattle.xod_volume.specs.Files.{Files}
use Rattle.xod_volume.specs.Crash.{Passes}
use Rattle.xod_volume.specs.Leases.{Stays}
use Rattle.xod_recover.specs.Check.{Newest, check}
use Rattle.xod_recover.specs.Images.{Settled, Stores}
use Rattle.xod_recover.specs.Keeping.{KeepsFound}
use Rattle.xod_recover.specs.Stores.{stored_in}
use Rattle.xod_recover.specs.Tails.{AllNearAsFound}

-- The check decides as before, and the same is stored; a volume file is there exactly where it was; what stands below the
-- root found is kept; where reads give an image, they do so after it; and from images that are near, as those of
-- a settled volume are, each one stores what it did, or what reads store. The members are those of the volume's trait.
pub record Recovers {V : Type 0} (tells : V → Bool) (files : V → Files) (moment : V → ℕ) (may_leave : V → ℕ → Files → Type 0) (leases : V → List (List ℕ)) (refs : V → List GName) (faults : V → ℕ) (old new : V) : Type 0 where
  pub stays : Stays (tells old) (tells new) (leases old) (leases new) (refs old) (refs new) (faults old) (faults new)
  pub decided : IsTrue (tells old) → check (files new) ≡ check (files old)
  pub stored : IsTrue (tells old) → stored_in (files new) ≡ stored_in (files old)
  pub there : IsTrue (tells old) → (file : ℕ) → is_some (get (files new) file) ≡ is_some (get (files old) file)
  pub keeps : IsTrue (tells old) → (newest : Newest) → check (files old) ≡ Ok newest → KeepsFound newest (files old) (files new)
  pub kept : IsTrue (tells old) → may_leave old (moment old) (files old) → may_leave new (moment new) (files new)
  pub near : IsTrue (tells old) → (newest : Newest) → check (files old) ≡ Ok newest → AllNearAsFound newest (files old) (may_leave old (moment old)) → Passes (moment old) (moment new) (may_leave old) (may_leave new) (Stores (stored_in (files old)))
  pub crash : IsTrue (tells old) → Settled (files old) (may_leave old (moment old)) → Passes (moment old) (moment new) (may_leave old) (may_leave new) (Stores (stored_in (files old)))
