-- What images have stored since a moment.
use Rattle.std.specs.Prelude.{◌≡◌, ℕ, List, Some}
use Rattle.std.specs.List.{Contains}
use Rattle.xod_volume.specs.Files.{Files}
use Rattle.xod_volume.specs.Crash.{LeftSince}
use Rattle.xod_recover.specs.Stores.{Stored, stored_in}

-- An image is a good store, and stores one of these.
pub record StoresOneOf (list : List Stored) (left : Files) : Type 0 where
  pub one : Stored
  pub listed : Contains list one
  pub stored : stored_in left ≡ Some one

-- Each image that a crash may have left since a moment stores one of these.
abbrev pub AllSince : List Stored → ℕ → ℕ → (ℕ → Files → Type 0) → Type 0
AllSince list since now images = (left : Files) → LeftSince since now images left → StoresOneOf list left
