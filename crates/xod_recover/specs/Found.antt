-- What was found, as the newest root that it is.
use Rattle.std.specs.Prelude.{◌≡◌, ◌<◌, ◌≤◌, ◌-◌, ◌^◌, true, length, take, drop}
use Rattle.std.specs.FinMap.{entries}
use Rattle.xod_volume.specs.Files.{Files, bytes_of}
use Rattle.xod_log.specs.Ends.{body_of}
use Rattle.xod_recover.specs.declared.newest.Found.{Found}
use Rattle.xod_recover.specs.Check.{Newest, are_trees, no_newest, root_address}
use Rattle.xod_recover.specs.Rooted.{SpellsRoot}
use Rattle.xod_recover.specs.Walks.{are_below}

abbrev pub newest_of : Found → Newest
newest_of found = record {
  file = found.file;
  marks = found.marks;
  end = found.end;
  back = found.back;
  commit = found.commit;
  trees = entries found.roots;
}

-- The trees have the numbers that trees have, and each root begins before the record that lists it. Without an open mark
-- the store is empty.
pub record IsRooted (found : Found) : Type 0 where
  pub numbered : are_trees (entries found.roots) ≡ true
  pub below : are_below (root_address found.file found.end found.back) (entries found.roots) ≡ true
  pub within : found.back ≤ found.end
  pub fits : found.end < 2 ^ 64
  pub nothing : found.marks ≡ 0 → newest_of found ≡ no_newest

-- The last bytes before the end are the root record of the commit and the roots found, from first to last.
pub record HasRoot (found : Found) (files : Files) : Type 0 where
  pub long : found.end ≤ length (bytes_of files (body_of found.file))
  pub spelled : SpellsRoot found.commit found.roots (drop (found.end - found.back) (take found.end (bytes_of files (body_of found.file))))

-- and the body ends there
pub record EndsWithRoot (found : Found) (files : Files) : Type 0 where
  pub long : length (bytes_of files (body_of found.file)) ≡ found.end
  pub spelled : SpellsRoot found.commit found.roots (drop (found.end - found.back) (bytes_of files (body_of found.file)))
