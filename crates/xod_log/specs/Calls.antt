-- What the calls of a log leave: of the files as reads give them, and of what a crash may leave.
use Rattle.std.specs.Prelude.{◌≡◌, ◌<◌, ◌≤◌, ◌⊎◌, ℕ, ◌+◌, ◌*◌, false, List, [], ◌∷◌, ◌++◌, length, take, replicate, Some, MatchBool, if◌then◌else◌}
use mathlib.Core.Logic.{◌≢◌}
use Rattle.std.specs.FinMap.{get}
use Rattle.xod_volume.specs.Files.{Files, bytes_of, size_of}
use Rattle.xod_volume.specs.Crash.{OnFile, OnBytes, Torn, LeftSince}
use Rattle.xod_block.specs.declared.address.Address.{Address}
use Rattle.xod_log.specs.declared.log.Log.{Log}
use Rattle.xod_log.specs.Ends.{gate_at, numbers_at, numbers, IsOpen, IsUsed, HasSealed, body_of, ends_of}
use Rattle.xod_log.specs.Standing.{IsDurablePair, body_file, ends_file, is_due, sealed_log}

-- ---- bytes

-- a mark whose numbers and gate are 0
abbrev pub no_mark : List ℕ
no_mark = replicate 13 0

-- The ends after a seal: the last mark has the numbers and an open gate, and a closed mark follows.
abbrev pub marked_ends : Log → List ℕ → List ℕ
marked_ends log ends = take (13 * log.marks) ends ++ (numbers log.end log.back ++ (1 ∷ no_mark))

abbrev pub sealed_ends : Log → List ℕ → List ℕ
sealed_ends log ends = if log.is_sealed then ends else marked_ends log ends

-- ---- files

-- neither of the current pair nor of the next one
abbrev pub IsElsewhere : Log → ℕ → Type 0
IsElsewhere log file = (file < body_file log) ⊎ (body_file log + 4 ≤ file)

-- A pair without blocks: an empty body, and ends with one closed mark.
pub record IsEmptyPair (file : ℕ) (files : Files) : Type 0 where
  pub body : get files (body_of file) ≡ Some []
  pub ends : get files (ends_of file) ≡ Some no_mark

-- A block stands whole in one file, from a place on to the end of its body.
pub record EndsWith (files : Files) (place : Address) (block : List ℕ) : Type 0 where
  pub front : List ℕ
  pub there : get files (body_of place.file) ≡ Some (front ++ block)
  pub at : length front ≡ place.at

-- The log was rolled, and then this was appended: the current file was sealed, and the next one has these bytes alone.
pub record IsRolled (log : Log) (block : List ℕ) (before after : Files) : Type 0 where
  pub body : get after (body_file log) ≡ get before (body_file log)
  pub ends : get after (ends_file log) ≡ Some (sealed_ends log (bytes_of before (ends_file log)))
  pub next_body : get after (body_of (log.file + 1)) ≡ Some block
  pub next_ends : get after (ends_of (log.file + 1)) ≡ Some no_mark

-- ---- what a crash may leave

-- A log file has the same pair.
pub record IsSamePair (file : ℕ) (was left : Files) : Type 0 where
  pub body : get left (body_of file) ≡ get was (body_of file)
  pub ends : get left (ends_of file) ≡ get was (ends_of file)

-- While a pair is made it is as it was, or the log file is not used.
pub record MakesPair (file : ℕ) (was left : Files) : Type 0 where
  pub others : (other : ℕ) → other ≢ body_of file → other ≢ ends_of file → get left other ≡ get was other
  pub pair : IsSamePair file was left ⊎ (¬ (IsUsed file left))

-- The body is as it was, and the open marks are those that were open: the one to come is closed yet.
pub record IsClosed (log : Log) (was left : Files) : Type 0 where
  pub body : get left (body_file log) ≡ get was (body_file log)
  pub has_ends : get left (ends_file log) ≡ Some (bytes_of left (ends_file log))
  pub long : 13 * (log.marks + 1) ≤ size_of left (ends_file log)
  pub no_longer : size_of left (ends_file log) ≤ 13 * (log.marks + 2)
  pub front : take (13 * log.marks) (bytes_of left (ends_file log)) ≡ take (13 * log.marks) (bytes_of was (ends_file log))
  pub gate : gate_at (bytes_of left (ends_file log)) log.marks ≡ 0

-- The body is whole, and the mark to come has the numbers of the last block; it is open or closed yet.
pub record IsMarked (log : Log) (body ends : List ℕ) (left : Files) : Type 0 where
  pub unsealed : log.is_sealed ≡ false
  pub whole : get left (body_file log) ≡ Some body
  pub has_ends : get left (ends_file log) ≡ Some (bytes_of left (ends_file log))
  pub size : size_of left (ends_file log) ≡ 13 * (log.marks + 2)
  pub front : take (13 * log.marks) (bytes_of left (ends_file log)) ≡ take (13 * log.marks) ends
  pub says : numbers_at (bytes_of left (ends_file log)) log.marks ≡ numbers log.end log.back
  pub next_gate : gate_at (bytes_of left (ends_file log)) (log.marks + 1) ≡ 0

-- What a seal may leave of what might have been left before: the ends alone may differ.
pub record Seals (log : Log) (body ends : List ℕ) (was left : Files) : Type 0 where
  pub others : (other : ℕ) → other ≢ ends_file log → get left other ≡ get was other
  pub pair : IsClosed log was left ⊎ IsMarked log body ends left

-- What a roll may leave, and an append after one: the ends may differ and the next pair, which is not used where it was not.
pub record Rolls (log : Log) (body ends : List ℕ) (was left : Files) : Type 0 where
  pub others : (other : ℕ) → IsElsewhere log other → get left other ≡ get was other
  pub next : ¬ (IsUsed (log.file + 1) was) → ¬ (IsUsed (log.file + 1) left)
  pub pair : IsClosed log was left ⊎ IsMarked log body ends left

-- What an append of so many bytes may leave: without a roll the body alone may differ, behind its end.
abbrev pub Appends : Log → ℕ → List ℕ → List ℕ → Files → Files → Type 0
Appends log count body ends was left = MatchBool (is_due log) (Rolls log body ends was left) (OnFile (body_file log) (OnBytes (Torn log.end count)) was left)

-- A mark that is open was open before, with the same bytes, or it has the numbers of the block that was the last one.
abbrev pub OpensOnly : Log → List ℕ → Files → Type 0
OpensOnly log ends left = (mark : ℕ) → IsOpen (bytes_of left (ends_file log)) mark
    → ((mark < log.marks) × (take (13 * log.marks) (bytes_of left (ends_file log)) ≡ take (13 * log.marks) ends))
    ⊎ ((log.is_sealed ≡ false) × (mark ≡ log.marks) × (numbers_at (bytes_of left (ends_file log)) mark ≡ numbers log.end log.back))

-- The body comes before the mark: in no image is the mark to come open, or each image has the body whole.
abbrev pub BodyFirst : Log → Files → (Files → Type 0) → Type 0
BodyFirst log files images = ((left : Files) → images left → gate_at (bytes_of left (ends_file log)) log.marks ≡ 0)
    ⊎ ((left : Files) → images left → get left (body_file log) ≡ get files (body_file log))

-- What open marks claim goes on holding in each image since a call's start, no mark is opened but the one to come, and
-- the body comes before that. `files` is what reads gave at the start.
pub record KeepsClaims (log : Log) (files : Files) (start now : ℕ) (past images : ℕ → Files → Type 0) : Type 0 where
  pub sealed : ((left : Files) → past start left → HasSealed log.file (bytes_of files (body_file log)) left)
      → (left : Files) → LeftSince start now images left → HasSealed log.file (bytes_of files (body_file log)) left
  pub opens : (left : Files) → LeftSince start now images left → OpensOnly log (bytes_of files (ends_file log)) left
  pub body_first : BodyFirst log files (images now)

-- ---- what outlives a crash

-- The last mark of the log is open and has the numbers of its last block.
pub record HasMark (log : Log) (mark : ℕ) (left : Files) : Type 0 where
  pub opened : IsOpen (bytes_of left (ends_file log)) mark
  pub says : numbers_at (bytes_of left (ends_file log)) mark ≡ numbers log.end log.back

-- What was appended outlives a crash once the log is sealed: each image has the pair as reads give it, and in it the last
-- mark is open.
pub record Outlives (log : Log) (files : Files) (images : Files → Type 0) : Type 0 where
  pub pair : IsDurablePair log.file files images
  pub marked : (left : Files) (mark : ℕ) → images left → (sealed_log log).marks ≡ mark + 1 → HasMark (sealed_log log) mark left
