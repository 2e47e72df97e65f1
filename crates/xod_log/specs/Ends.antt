-- The ends of a log file: a list of marks of 13 bytes, of which the first ones are open.
use Rattle.std.specs.Prelude.{◌≡◌, ◌≤◌, ℕ, ◌+◌, ◌*◌, List, ◌++◌, length, take, drop, get_or, IsSome}
use mathlib.Core.Logic.{◌≢◌}
use Rattle.std.specs.Int.{w64, w32, to_be_bytes, from_be_bytes}
use Rattle.std.specs.FinMap.{get}
use Rattle.xod_volume.specs.Files.{Files, bytes_of}

-- ---- one mark

-- the gate of a mark, 0 where the file is too short for it
abbrev pub gate_at : List ℕ → ℕ → ℕ
gate_at ends mark = get_or ends (13 * mark + 12) 0

-- the twelve bytes before the gate
abbrev pub numbers_at : List ℕ → ℕ → List ℕ
numbers_at ends mark = take 12 (drop (13 * mark) ends)

-- the end that they say
abbrev pub end_at : List ℕ → ℕ → ℕ
end_at ends mark = from_be_bytes w64 (take 8 (numbers_at ends mark))

-- how far before the end the root begins
abbrev pub back_at : List ℕ → ℕ → ℕ
back_at ends mark = from_be_bytes w32 (drop 8 (numbers_at ends mark))

-- the twelve bytes of an end and of how far back the root begins
abbrev pub numbers : ℕ → ℕ → List ℕ
numbers end back = to_be_bytes w64 end ++ to_be_bytes w32 back

-- A mark is open where no gate up to its own is 0, and one more mark follows whole.
pub record IsOpen (ends : List ℕ) (mark : ℕ) : Type 0 where
  pub gates : (earlier : ℕ) → earlier ≤ mark → gate_at ends earlier ≢ 0
  pub followed : 13 * (mark + 2) ≤ length ends

-- ---- log files

-- Log file n is two volume files: its body, and its ends.
abbrev pub body_of : ℕ → ℕ
body_of file = 2 * file

abbrev pub ends_of : ℕ → ℕ
ends_of file = 2 * file + 1

-- A log file is used where both are there and mark 0 is open.
pub record IsUsed (file : ℕ) (files : Files) : Type 0 where
  pub has_body : IsSome (get files (body_of file))
  pub has_ends : IsSome (get files (ends_of file))
  pub opened : IsOpen (bytes_of files (ends_of file)) 0

-- Its body is there whole up to the end of each open mark: as long as that, and with the bytes of `body`.
abbrev pub HasSealed : ℕ → List ℕ → Files → Type 0
HasSealed file body left = (mark : ℕ) → IsOpen (bytes_of left (ends_of file)) mark
    → (end_at (bytes_of left (ends_of file)) mark ≤ length (bytes_of left (body_of file)))
    × (take (end_at (bytes_of left (ends_of file)) mark) (bytes_of left (body_of file)) ≡ take (end_at (bytes_of left (ends_of file)) mark) body)
