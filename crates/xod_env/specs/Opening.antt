-- What an opening leaves of a volume.
use base.Fml.{GName}
use Rattle.std.specs.Prelude.{◌≡◌, ℕ, Bool, IsTrue, List, Option, option_and_then}
use Rattle.xod_audit.specs.Audits.{kinds_of}
use Rattle.xod_recover.specs.Check.{check}
use Rattle.xod_recover.specs.Images.{Settled, Stores}
use Rattle.xod_recover.specs.Stores.{stored_in}
use Rattle.xod_volume.specs.Crash.{Passes}
use Rattle.xod_volume.specs.Files.{Files}
use Rattle.xod_volume.specs.Leases.{Stays}

-- the names of the types of what files store
abbrev pub kinds_in : Files → Option (List (List ℕ))
kinds_in files = option_and_then (λ stored. kinds_of stored.trees) (stored_in files)

-- Whatever was answered: the check decides as before, and the same is stored; where reads gave an image they do so still; and
-- an image of a volume that was settled stores what it did. The members are those of a volume's trait.
pub record LeavesStored {V : Type 0} (tells : V → Bool) (files : V → Files) (moment : V → ℕ) (may_leave : V → ℕ → Files → Type 0) (leases : V → List (List ℕ)) (refs : V → List GName) (faults : V → ℕ) (before now : V) : Type 0 where
  pub stays : Stays (tells before) (tells now) (leases before) (leases now) (refs before) (refs now) (faults before) (faults now)
  pub decided : IsTrue (tells before) → check (files now) ≡ check (files before)
  pub stored : IsTrue (tells before) → stored_in (files now) ≡ stored_in (files before)
  pub kept : IsTrue (tells before) → may_leave before (moment before) (files before) → may_leave now (moment now) (files now)
  pub crash : IsTrue (tells before) → Settled (files before) (may_leave before (moment before))
      → Passes (moment before) (moment now) (may_leave before) (may_leave now) (Stores (stored_in (files before)))
