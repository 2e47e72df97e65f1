-- What an opening found in files, and what it needs of an image to cut off what stands behind that.
use Rattle.std.specs.Prelude.{◌≡◌, ◌<◌, ◌≤◌, ◌^◌, ℕ, suc, pred, false, List, length, take, Ok, IsSome}
use mathlib.Core.Logic.{◌≢◌}
use Rattle.std.specs.FinMap.{get}
use Rattle.xod_volume.specs.Files.{Files, bytes_of}
use Rattle.xod_log.specs.Ends.{numbers_at, numbers, body_of, ends_of}
use Rattle.xod_log.specs.Standing.{last_file}
use Rattle.xod_recover.specs.Opened.{open_count, is_used}
use Rattle.xod_recover.specs.Check.{Newest, check}
use Rattle.xod_recover.specs.Images.{UnusedFrom}

-- the twelve bytes of the mark that names the newest root
abbrev pub last_numbers : Newest → Files → List ℕ
last_numbers newest files = numbers_at (bytes_of files (ends_of newest.file)) (pred newest.marks)

-- The newest root of good files, in which a log file is used. The mark that names it has the twelve bytes of its end and
-- of how far back the root begins.
pub record IsFoundIn (newest : Newest) (files : Files) : Type 0 where
  pub some : 0 < newest.marks
  pub fits : newest.end < 2 ^ 64
  pub decided : check files ≡ Ok newest
  pub says : last_numbers newest files ≡ numbers newest.end newest.back

-- another body has the bytes of a body up to an end
abbrev pub Covers : List ℕ → List ℕ → ℕ → Type 0
Covers body other end = (end ≤ length other) × (take end other ≡ take end body)

-- An image is near what was found, after faults too: it uses no log file above the one found, and has each body below
-- that reads find as they give it; that of the file found covers what the last open mark says; and where that mark is
-- open, it has the same twelve bytes.
pub record IsNear (newest : Newest) (files left : Files) : Type 0 where
  pub has_body : IsSome (get left (body_of newest.file))
  pub has_ends : IsSome (get left (ends_of newest.file))
  pub above : UnusedFrom (suc newest.file) left
  pub lower : (other : ℕ) → other < newest.file → IsSome (get files (body_of other)) → get left (body_of other) ≡ get files (body_of other)
  pub covers : Covers (bytes_of files (body_of newest.file)) (bytes_of left (body_of newest.file)) newest.end
  pub says : newest.marks ≤ open_count (bytes_of left (ends_of newest.file)) → last_numbers newest left ≡ last_numbers newest files

-- each of these images is near
abbrev pub AllNear : Newest → Files → (Files → Type 0) → Type 0
AllNear newest files images = (left : Files) → images left → IsNear newest files left

-- An image is near but for one log file above, which it may use: that of a roll after which nothing was sealed. In the
-- ends of the file found the same mark is the last open one, since they were sealed before that roll.
pub record IsNearBut (newest : Newest) (above : ℕ) (files left : Files) : Type 0 where
  pub has_body : IsSome (get left (body_of newest.file))
  pub has_ends : IsSome (get left (ends_of newest.file))
  pub others : (other : ℕ) → newest.file < other → other ≤ last_file → other ≢ above → is_used left other ≡ false
  pub lower : (other : ℕ) → other < newest.file → IsSome (get files (body_of other)) → get left (body_of other) ≡ get files (body_of other)
  pub covers : Covers (bytes_of files (body_of newest.file)) (bytes_of left (body_of newest.file)) newest.end
  pub count : open_count (bytes_of left (ends_of newest.file)) ≡ newest.marks
  pub says : last_numbers newest left ≡ last_numbers newest files

abbrev pub AllNearBut : Newest → ℕ → Files → (Files → Type 0) → Type 0
AllNearBut newest above files images = (left : Files) → images left → IsNearBut newest above files left

-- each of these images is near, and uses no log file above the one found at all
abbrev pub AllNearAsFound : Newest → Files → (Files → Type 0) → Type 0
AllNearAsFound newest files images = AllNearBut newest newest.file files images

-- Reads find both volume files of the next log file, which images may use.
pub record MayUseNext (newest : Newest) (files : Files) (images : Files → Type 0) : Type 0 where
  pub low : newest.file < last_file
  pub has_body : IsSome (get files (body_of (suc newest.file)))
  pub has_ends : IsSome (get files (ends_of (suc newest.file)))
  pub near : AllNearBut newest (suc newest.file) files images
