-- What an opening writes leaves of a volume, where a root was found. The members are those of the volume's trait.
use base.Fml.{GName}
use Rattle.std.specs.Prelude.{◌≡◌, ℕ, Bool, IsTrue, List}
use Rattle.xod_volume.specs.Files.{Files}
use Rattle.xod_volume.specs.Crash.{Passes}
use Rattle.xod_volume.specs.Leases.{Stays}
use Rattle.xod_recover.specs.Check.{Newest}
use Rattle.xod_recover.specs.Images.{Settled, Stores}
use Rattle.xod_recover.specs.Keeping.{KeepsFound}
use Rattle.xod_recover.specs.Stores.{stored_in}
use Rattle.xod_recover.specs.Tails.{AllNearAsFound, IsFoundIn}

-- Whatever was answered: what was found is kept, and so is that reads give an image; and from images that are near, each
-- one stores what it did, or what was found.
pub record Writes {V : Type 0} (tells : V → Bool) (files : V → Files) (moment : V → ℕ) (may_leave : V → ℕ → Files → Type 0) (leases : V → List (List ℕ)) (refs : V → List GName) (faults : V → ℕ) (newest : Newest) (old new : V) : Type 0 where
  pub stays : Stays (tells old) (tells new) (leases old) (leases new) (refs old) (refs new) (faults old) (faults new)
  pub keeps : IsTrue (tells old) → KeepsFound newest (files old) (files new)
  pub kept : IsTrue (tells old) → may_leave old (moment old) (files old) → may_leave new (moment new) (files new)
  pub crash : IsTrue (tells old) → AllNearAsFound newest (files old) (may_leave old (moment old)) → Passes (moment old) (moment new) (may_leave old) (may_leave new) (Stores (stored_in (files old)))

-- After Ok: the same is found, a volume that was settled is settled, and the device did not fail.
pub record Wrote {V : Type 0} (tells : V → Bool) (files : V → Files) (moment : V → ℕ) (may_leave : V → ℕ → Files → Type 0) (faults : V → ℕ) (newest : Newest) (old new : V) : Type 0 where
  pub found : IsTrue (tells old) → IsFoundIn newest (files new)
  pub settled : IsTrue (tells old) → Settled (files old) (may_leave old (moment old)) → Settled (files new) (may_leave new (moment new))
  pub unfailed : faults new ≡ faults old
