-- What images store, and settled volumes.
use Rattle.std.specs.Prelude.{◌≡◌, ◌<◌, ◌≤◌, ◌⊎◌, ℕ, false, Option}
use Rattle.xod_volume.specs.Files.{Files}
use Rattle.xod_log.specs.Standing.{IsSettled, last_file}
use Rattle.xod_recover.specs.Opened.{is_used}
use Rattle.xod_recover.specs.Stores.{Stored, stored_in}

-- no log file is used from a number on
abbrev pub UnusedFrom : ℕ → Files → Type 0
UnusedFrom file files = (other : ℕ) → file ≤ other → other ≤ last_file → is_used files other ≡ false

-- What an image stores is what the one that it comes of stored, or else this.
abbrev pub Stores : Option Stored → Files → Files → Type 0
Stores other was left = (stored_in left ≡ stored_in was) ⊎ (stored_in left ≡ other)

-- each of these images stores this
abbrev pub AllStore : Option Stored → (Files → Type 0) → Type 0
AllStore stored images = (left : Files) → images left → stored_in left ≡ stored

-- A volume is settled: each file that reads find is in each image, with its bytes; each image stores what reads give;
-- and no log file is used in an image above those that reads use, or above the first.
pub record Settled (files : Files) (images : Files → Type 0) : Type 0 where
  pub each_file : (file : ℕ) → IsSettled file files images
  pub alike : AllStore (stored_in files) images
  pub above : (left : Files) → images left → (file : ℕ) → 0 < file → UnusedFrom file files → UnusedFrom file left
