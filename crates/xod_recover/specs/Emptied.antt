-- Log files that are emptied.
use Rattle.std.specs.Prelude.{◌≡◌, ◌<◌, ◌≤◌, ℕ, ◌+◌, List, [], get_or, length, Some, IsSome}
use Rattle.std.specs.FinMap.{get}
use Rattle.xod_volume.specs.Files.{Files}
use Rattle.xod_log.specs.Ends.{body_of, ends_of}
use Rattle.xod_log.specs.Standing.{last_file}

-- the body of a log file stands at a place of a list of volume files, and its ends right behind it
pub record IsPairAt (numbers : List ℕ) (index file : ℕ) : Type 0 where
  pub within : index + 1 < length numbers
  pub body : get_or numbers index 0 ≡ body_of file
  pub ends : get_or numbers (index + 1) 0 ≡ ends_of file

-- both volume files of a log file are there, without a byte
pub record IsEmptied (file : ℕ) (files : Files) : Type 0 where
  pub body : get files (body_of file) ≡ Some []
  pub ends : get files (ends_of file) ≡ Some []

-- each log file above one that had both its volume files is emptied
abbrev pub AreEmptied : ℕ → Files → Files → Type 0
AreEmptied file old new = (other : ℕ) → file < other → other ≤ last_file → IsSome (get old (body_of other)) → IsSome (get old (ends_of other)) → IsEmptied other new
