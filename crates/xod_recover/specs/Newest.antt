-- What the newest root is, without the steps by which it is found.
use Rattle.std.specs.Prelude.{◌≡◌, ◌<◌, ◌≤◌, pred, ◌-◌, take, drop, Some, None, true, is_some}
use Rattle.xod_volume.specs.Files.{Files, bytes_of, size_of}
use Rattle.xod_log.specs.Ends.{end_at, back_at, body_of, ends_of}
use Rattle.xod_tables.specs.Reading.{rows_of}
use Rattle.xod_recover.specs.Check.{Newest, has_body, records_upto, root_address, rooted_in, trees_under}
use Rattle.xod_recover.specs.Opened.{open_count, greatest_used}
use Rattle.xod_recover.specs.Walks.{bad_trees}

-- The greatest used log file has so many open marks, of which the last says where the sealed body ends and how far
-- before that the root begins; the body is as long as that, these bytes are the root, all that its trees reach is there,
-- and they are the tables of some rows.
pub record IsNewest (files : Files) (newest : Newest) : Type 0 where
  pub used : greatest_used files ≡ Some newest.file
  pub some : 0 < newest.marks
  pub count : open_count (bytes_of files (ends_of newest.file)) ≡ newest.marks
  pub end_is : newest.end ≡ end_at (bytes_of files (ends_of newest.file)) (pred newest.marks)
  pub back_is : newest.back ≡ back_at (bytes_of files (ends_of newest.file)) (pred newest.marks)
  pub long : newest.end ≤ size_of files (body_of newest.file)
  pub within : newest.back ≤ newest.end
  pub root : rooted_in (drop (newest.end - newest.back) (take newest.end (bytes_of files (body_of newest.file)))) ≡ Some (newest.commit, newest.trees)
  pub whole : bad_trees (records_upto files newest.file newest.end) (has_body files) (root_address newest.file newest.end newest.back) newest.trees ≡ None
  pub tables : is_some (rows_of (trees_under files newest)) ≡ true
