-- What an opening leaves of what reads give, where it found a root.
use Rattle.std.specs.Prelude.{◌≡◌, ◌<◌, ℕ, is_some}
use Rattle.std.specs.FinMap.{get}
use Rattle.xod_volume.specs.Files.{Files, bytes_of}
use Rattle.xod_log.specs.Ends.{body_of, ends_of}
use Rattle.xod_log.specs.Standing.{last_file}
use Rattle.xod_recover.specs.Check.{Newest, check}
use Rattle.xod_recover.specs.Stores.{stored_in}
use Rattle.xod_recover.specs.Tails.{Covers}

-- The check decides as before, and the same is stored. A volume file is there exactly where it was. Those below the body
-- of the log file found are as they were, and so are those above the last log file; that body has the same bytes up to
-- the end.
pub record KeepsFound (newest : Newest) (old new : Files) : Type 0 where
  pub decided : check new ≡ check old
  pub stored : stored_in new ≡ stored_in old
  pub there : (file : ℕ) → is_some (get new file) ≡ is_some (get old file)
  pub lower : (file : ℕ) → file < body_of newest.file → get new file ≡ get old file
  pub beyond : (file : ℕ) → ends_of last_file < file → get new file ≡ get old file
  pub front : Covers (bytes_of old (body_of newest.file)) (bytes_of new (body_of newest.file)) newest.end
