-- Which marks are open, which log files are used, and the greatest of them: functions, which compute on given files.
use Rattle.std.specs.Prelude.{ℕ, zero, suc, ◌+◌, ◌*◌, ◌/◌, ◌%◌, ◌==◌, Bool, not, ◌&&◌, nat_lt, nat_le, if◌then◌else◌, List, [], ◌∷◌, length, Option, Some, None, is_some}
use Rattle.std.specs.FinMap.{get, keys}
use Rattle.xod_volume.specs.Files.{Files, bytes_of}
use Rattle.xod_log.specs.Ends.{gate_at, body_of, ends_of}
use Rattle.xod_log.specs.Standing.{last_file}

-- the gate of a mark is not 0, and one more mark follows it whole
abbrev pub opens : List ℕ → ℕ → Bool
opens ends mark = nat_le (13 * (mark + 2)) (length ends) && not (gate_at ends mark == 0)

-- how many marks open one after another from this one on, of so many at most
abbrev pub opened_from : List ℕ → ℕ → ℕ → ℕ
opened_from ends mark zero = 0
opened_from ends mark (suc more) = if opens ends mark then suc (opened_from ends (suc mark) more) else 0

-- how many marks are open: those before the first that does not open
unfoldable pub open_count : List ℕ → ℕ
open_count ends = opened_from ends 0 (length ends)

-- A log file is used where both its volume files are there and its first mark is open.
unfoldable pub is_used : Files → ℕ → Bool
is_used files file = is_some (get files (body_of file)) && (is_some (get files (ends_of file)) && nat_lt 0 (open_count (bytes_of files (ends_of file))))

-- the log file whose body is a volume file; none for ends, and for what is no log file
abbrev pub log_file_of : ℕ → Option ℕ
log_file_of number = if (number % 2 == 0) && nat_le (number / 2) last_file then Some (number / 2) else None

abbrev pub used_at : Files → Option ℕ → Option ℕ
used_at files None = None
used_at files (Some file) = if is_used files file then Some file else None

-- the last of some, where there is one
abbrev pub later_or : Option ℕ → Option ℕ → Option ℕ
later_or None earlier = earlier
later_or (Some later) earlier = Some later

-- the last log file that is used, of those whose bodies are among these volume files
abbrev pub last_used : Files → List ℕ → Option ℕ
last_used files [] = None
last_used files (number ∷ numbers) = later_or (last_used files numbers) (used_at files (log_file_of number))

-- the greatest used log file, since a volume's files rise
unfoldable pub greatest_used : Files → Option ℕ
greatest_used files = last_used files (keys files)
