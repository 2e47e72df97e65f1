-- What an environment is open on, and what its trees are.
use Rattle.std.specs.Prelude.{◌≡◌, ◌<◌, ◌≤◌, ◌^◌, ℕ, suc, pred, ◌+◌, ◌-◌, ◌==◌, ◌&&◌, true, IsSome, List, drop, Some, is_some, nat_lt, if◌then◌else◌}
use mathlib.Core.Logic.{◌≢◌}
use Rattle.std.specs.FinMap.{contains_key, empty, entries, get, len, retain_keys}
use Rattle.std.specs.List.{list_all}
use Rattle.xod_base.specs.Views.{Trees}
use Rattle.xod_block.specs.declared.address.Address.{Address}
use Rattle.xod_block.specs.Addresses.{number_of}
use Rattle.xod_block.specs.Bodies.{records_of}
use Rattle.xod_block.specs.Maps.{RecordsAt}
use Rattle.xod_block.specs.Records.{Fits, Link, spelling}
use Rattle.xod_log.specs.declared.log.Log.{Log}
use Rattle.xod_log.specs.Ends.{body_of, end_at, ends_of}
use Rattle.xod_log.specs.Standing.{IsSettled, Stands, body_file, ends_file, last_file}
use Rattle.xod_recover.specs.Check.{are_trees}
use Rattle.xod_recover.specs.Images.{UnusedFrom}
use Rattle.xod_recover.specs.Opened.{greatest_used, open_count}
use Rattle.xod_recover.specs.Stores.{Stored}
use Rattle.xod_recover.specs.Tails.{Covers}
use Rattle.xod_pages.specs.Lent.{lent_bodies}
use Rattle.xod_root.specs.Roots.{Roots, root_record}
use Rattle.xod_tables.specs.Reading.{rows_of}
use Rattle.xod_volume.specs.Files.{Files, bytes_of}
use Rattle.xod_env.specs.Bodies.{is_body_up_to}
use Rattle.xod_snapshot.specs.Snapshots.{snapshot_trees}

-- ---- files

-- the bodies up to that of the current log file, as far as they are there
abbrev pub bodies_up_to : ℕ → Files → Files
bodies_up_to current files = retain_keys files (is_body_up_to current)

-- The bodies of all log files. A log file is one whose body and ends are both there.
abbrev pub log_bodies : Files → Files
log_bodies files = retain_keys files (λ number. is_body_up_to last_file number && contains_key files (number + 1))

-- how many log files there are
abbrev pub log_file_count : Files → ℕ
log_file_count files = len (log_bodies files)

-- ---- the newest commit

-- the records of the bodies up to that of the current log file
abbrev pub env_records : ℕ → Files → RecordsAt
env_records current files = records_of (lent_bodies (bodies_up_to current files))

-- the roots before the first commit: no tree is listed
abbrev pub no_roots : Roots
no_roots = empty

-- what the environment has: the trees under its roots, over the bodies up to the current one
abbrev pub env_trees : ℕ → Files → Roots → Trees
env_trees current files roots = snapshot_trees (bodies_up_to current files) roots

-- the newest commit with its trees
abbrev pub newest_stored : ℕ → Files → Roots → ℕ → Stored
newest_stored current files roots commit = record { commit = commit; trees = env_trees current files roots }

-- The commit and the roots are those of the newest block: its last `back` bytes are the root record that has them. Before
-- the first block the commit is 0, and there are no roots.
pub record IsNewest (log : Log) (roots : Roots) (commit : ℕ) (body : List ℕ) : Type 0 where
  pub no_commit : log.end ≡ 0 → commit ≡ 0
  pub no_roots : log.end ≡ 0 → len roots ≡ 0
  pub within : log.back ≤ log.end
  pub fits : Fits (root_record commit roots)
  pub root : 0 < log.end → drop (log.end - log.back) body ≡ spelling (root_record commit roots)

-- where the root record of the newest block begins
abbrev pub root_place : Log → Address
root_place log = record { file = log.file; at = log.end - log.back }

-- the greatest length at which a log file is rolled
abbrev pub most_target : ℕ
most_target = 8388608

-- What holds of an environment whether or not its volume tells what it holds: its trees have the numbers 1 to 8, each root
-- begins before the newest root record, files are rolled at such a length, which is not 0, and the end is a place.
pub record ArePlaced (log : Log) (roots : Roots) : Type 0 where
  pub numbered : are_trees (entries roots) ≡ true
  pub below : list_all (λ (link : Link). nat_lt (number_of link.1) (number_of (root_place log))) (entries roots) ≡ true
  pub low : log.target ≤ most_target
  pub some : 0 < log.target
  pub fits : log.end < 2 ^ 64

-- where the last open mark of the current file says that the sealed bytes end; 0 without one
abbrev pub sealed_end : Log → Files → ℕ
sealed_end log files = if log.marks == 0 then 0 else end_at (bytes_of files (ends_file log)) (pred log.marks)

-- An environment is at this commit on a volume with these files, of which a crash may leave these images: its log stands
-- there; its commit and roots are those of the newest block, each tree has a map, and the trees are the tables of some
-- rows; a log without a block is that of the
-- first file, of which no mark is open; no log file above the current one is used; and what is sealed of the current body
-- is no longer than it.
pub record IsAt (log : Log) (roots : Roots) (commit : ℕ) (files : Files) (images : Files → Type 0) : Type 0 where
  pub stands : Stands log files images
  pub file_fits : log.file ≤ last_file
  pub end_fits : log.end < 2 ^ 64
  pub back_fits : log.back < 2 ^ 32
  pub newest : IsNewest log roots commit (bytes_of files (body_file log))
  pub maps : (tree : ℕ) → is_some (env_trees log.file files roots tree) ≡ true
  pub tables : is_some (rows_of (env_trees log.file files roots)) ≡ true
  pub first_file : log.end ≡ 0 → log.file ≡ 0
  pub first_mark : log.end ≡ 0 → log.marks ≡ 0
  pub first_seal : log.end ≡ 0 → log.is_sealed ≡ true
  pub top : UnusedFrom (suc log.file) files
  pub reaches : sealed_end log files ≤ log.end

-- ---- what a crash may leave

-- where the last open mark of a log file says that its sealed bytes end
abbrev pub last_end : ℕ → Files → ℕ
last_end file files = end_at (bytes_of files (ends_of file)) (pred (open_count (bytes_of files (ends_of file))))

-- An image is sound: it uses no log file above the current one, has each body below that reads find as they give it, and of
-- the current body has what is sealed. Where the current file has no open mark, the last mark of the newest file below says
-- an end that fits.
pub record IsSound (log : Log) (files left : Files) : Type 0 where
  pub above : UnusedFrom (suc log.file) left
  pub lower : (other : ℕ) → other < log.file → IsSome (get files (body_of other)) → get left (body_of other) ≡ get files (body_of other)
  pub covers : Covers (bytes_of files (body_file log)) (bytes_of left (body_file log)) (sealed_end log files)
  pub fits : log.marks ≡ 0 → (other : ℕ) → greatest_used left ≡ Some other → last_end other left < 2 ^ 64

-- An environment is steady: each image is sound, and each file but the current pair is in each image as reads give it. It is
-- so on a volume that was settled when it was opened, until a write fails.
pub record IsSteady (log : Log) (files : Files) (images : Files → Type 0) : Type 0 where
  pub sound : (left : Files) → images left → IsSound log files left
  pub beside : (file : ℕ) → file ≢ body_file log → file ≢ ends_file log → IsSettled file files images
