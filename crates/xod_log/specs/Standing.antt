-- A log, and when it stands on a volume.
use Rattle.std.specs.Prelude.{◌≡◌, ◌<◌, ℕ, ◌+◌, ◌*◌, Bool, true, false, ◌&&◌, List, length, take, Some, IsSome, IsTrue, is_some, nat_le, nat_eq, if◌then◌else◌}
use mathlib.Core.Logic.{◌≢◌}
use Rattle.std.specs.FinMap.{get}
use Rattle.xod_block.specs.declared.address.Address.{Address}
use Rattle.xod_volume.specs.Files.{Files, bytes_of, size_of}
use Rattle.xod_log.specs.Ends.{gate_at, numbers_at, numbers, body_of, ends_of}
use Rattle.xod_log.specs.declared.log.Log.{Log}

-- ---- the current pair

abbrev pub body_file : Log → ℕ
body_file log = body_of log.file

abbrev pub ends_file : Log → ℕ
ends_file log = ends_of log.file

-- A log file is there where its body and its ends both are.
abbrev pub has_pair : Files → ℕ → Bool
has_pair files file = is_some (get files (body_of file)) && is_some (get files (ends_of file))

-- A roll comes before the next block where the file has reached the target.
abbrev pub is_due : Log → Bool
is_due log = nat_le log.target log.end

-- no log file comes after this one
abbrev pub last_file : ℕ
last_file = 4294967295

abbrev pub is_last : Log → Bool
is_last log = nat_eq log.file last_file

-- ---- the logs that the calls leave

-- after a seal: one open mark more, where there was something to seal
abbrev pub sealed_log : Log → Log
sealed_log log = if log.is_sealed then log else record log { marks = log.marks + 1; is_sealed = true }

-- with these numbers, and nothing to seal
abbrev pub resumed_log : ℕ → ℕ → ℕ → ℕ → ℕ → Log
resumed_log file end marks back target = record { file = file; end = end; marks = marks; back = back; is_sealed = true; target = target }

-- on a pair without blocks
abbrev pub empty_log : ℕ → ℕ → Log
empty_log file target = resumed_log file 0 0 0 target

-- after a roll
abbrev pub rolled_log : Log → Log
rolled_log log = empty_log (log.file + 1) log.target

-- the log that a block comes to: this one, or the one after a roll where that is due
abbrev pub receiving_log : Log → Log
receiving_log log = if is_due log then rolled_log log else log

-- after a block of so many bytes
abbrev pub appended_log : Log → ℕ → ℕ → Log
appended_log log count back = record log { end = log.end + count; back = back; is_sealed = false }

-- where the next block begins; at the end of the last file where a roll is due and there is no file to roll to
abbrev pub next_place_of : Log → Address
next_place_of log = if is_last log then record { file = log.file; at = log.end } else record { file = (receiving_log log).file; at = (receiving_log log).end }

-- ---- standing

-- The ends have the open marks and then one whose gate is 0, and the open ones are those of `settled`.
pub record AtRest (marks : ℕ) (settled ends : List ℕ) : Type 0 where
  pub size : length ends ≡ 13 * (marks + 1)
  pub front : take (13 * marks) ends ≡ take (13 * marks) settled
  pub gate : gate_at ends marks ≡ 0

-- What a crash may leave of the pair: a body with any bytes, and ends at rest.
pub record LeftStanding (log : Log) (ends : List ℕ) (left : Files) : Type 0 where
  pub has_body : get left (body_file log) ≡ Some (bytes_of left (body_file log))
  pub has_ends : get left (ends_file log) ≡ Some (bytes_of left (ends_file log))
  pub at_rest : AtRest log.marks ends (bytes_of left (ends_file log))

-- The last open mark has the end and the back of the last block; without an open mark there is no block.
pub record LastSays (marks end back : ℕ) (ends : List ℕ) : Type 0 where
  pub none : marks ≡ 0 → end ≡ 0
  pub some : (mark : ℕ) → marks ≡ mark + 1 → numbers_at ends mark ≡ numbers end back

-- A file is settled: where reads find it, each image has it with the same bytes.
abbrev pub IsSettled : ℕ → Files → (Files → Type 0) → Type 0
IsSettled file files images = IsSome (get files file) → (left : Files) → images left → get left file ≡ get files file

-- The pair of a log file is durable: each image has it as reads give it.
pub record IsDurablePair (file : ℕ) (files : Files) (images : Files → Type 0) : Type 0 where
  pub body : (left : Files) → images left → get left (body_of file) ≡ get files (body_of file)
  pub ends : (left : Files) → images left → get left (ends_of file) ≡ get files (ends_of file)

-- The log stands on a volume with these files, of which a crash may leave these images. All of it is said of the
-- current pair.
pub record Stands (log : Log) (files : Files) (images : Files → Type 0) : Type 0 where
  pub has_body : get files (body_file log) ≡ Some (bytes_of files (body_file log))
  pub has_ends : get files (ends_file log) ≡ Some (bytes_of files (ends_file log))
  pub size : size_of files (body_file log) ≡ log.end
  pub opened : (mark : ℕ) → mark < log.marks → gate_at (bytes_of files (ends_file log)) mark ≢ 0
  pub at_rest : AtRest log.marks (bytes_of files (ends_file log)) (bytes_of files (ends_file log))
  pub each : (left : Files) → images left → LeftStanding log (bytes_of files (ends_file log)) left
  -- where nothing was appended since the last seal, each image has the pair as reads give it, and the last mark is that
  -- of the last block
  pub settled : IsTrue log.is_sealed → IsDurablePair log.file files images
  pub last : IsTrue log.is_sealed → LastSays log.marks log.end log.back (bytes_of files (ends_file log))

-- The pair is as an opening leaves it, on the device too: the body ends where its last open mark says, and the ends have
-- the open marks and a closed one.
pub record AsOpened (file end marks back : ℕ) (files : Files) (images : Files → Type 0) : Type 0 where
  pub has_body : get files (body_of file) ≡ Some (bytes_of files (body_of file))
  pub has_ends : get files (ends_of file) ≡ Some (bytes_of files (ends_of file))
  pub body_size : size_of files (body_of file) ≡ end
  pub ends_size : size_of files (ends_of file) ≡ 13 * (marks + 1)
  pub opened : (mark : ℕ) → mark < marks → gate_at (bytes_of files (ends_of file)) mark ≢ 0
  pub closed : gate_at (bytes_of files (ends_of file)) marks ≡ 0
  pub last : LastSays marks end back (bytes_of files (ends_of file))
  pub durable : IsDurablePair file files images
