-- What one call does to what a crash may leave.
use Rattle.std.specs.Prelude.{◌≡◌, ◌≤◌, ◌<◌, ◌⊎◌, ℕ, ◌+◌, max, List, [], length, take, drop, Some, None}
use mathlib.Core.Logic.{◌≢◌}
use Rattle.std.specs.FinMap.{get}
use Rattle.xod_volume.specs.Files.{Files, Content}

-- One file goes by a step from what it was to what it is, and the other files are as they were.
pub record OnFile (file : ℕ) (step : Content → Content → Type 0) (old new : Files) : Type 0 where
  pub here : step (get old file) (get new file)
  pub others : (other : ℕ) → other ≢ file → get new other ≡ get old other

-- A file that is absent stays absent, and the bytes of one that is there go by a step.
abbrev pub OnBytes : (List ℕ → List ℕ → Type 0) → Content → Content → Type 0
OnBytes step None new = new ≡ None
OnBytes step (Some was) new = (is : List ℕ) × (new ≡ Some is) × step was is

-- The new bytes are the old ones but for n bytes at a place, which are any, and which may reach past the old end.
pub record Torn (at n : ℕ) (old new : List ℕ) : Type 0 where
  pub before : take at new ≡ take at old
  pub after : drop (at + n) new ≡ drop (at + n) old
  pub no_shorter : length old ≤ length new
  pub no_longer : length new ≤ max (length old) (at + n)

-- The file was cut to n bytes, or was not: it has no length between.
abbrev pub Shortened : ℕ → List ℕ → List ℕ → Type 0
Shortened n old new = (new ≡ old) ⊎ (new ≡ take n old)

-- The file may have come to be, empty.
abbrev pub Appears : Content → Content → Type 0
Appears old new = (new ≡ old) ⊎ (new ≡ Some [])

-- The file may be gone.
abbrev pub Vanishes : Content → Content → Type 0
Vanishes old new = (new ≡ old) ⊎ (new ≡ None)

-- All files are as they were.
abbrev pub IsSame : Files → Files → Type 0
IsSame old new = new ≡ old

-- Time goes on over a call. What a crash at an earlier moment may leave stays as it was, and what one at a moment of
-- the call may leave is what one at its start might have left, after a step.
pub record Passes (before now : ℕ) (past images : ℕ → Files → Type 0) (step : Files → Files → Type 0) : Type 0 where
  pub later : before ≤ now
  pub same : (moment : ℕ) (files : Files) → moment ≤ before → images moment files → past moment files
  pub kept : (moment : ℕ) (files : Files) → moment ≤ before → past moment files → images moment files
  pub each : (moment : ℕ) (files : Files) → before ≤ moment → moment ≤ now → images moment files
      → (was : Files) × past before was × step was files

-- No time passes, and what a crash may leave neither gains nor loses.
pub record Rests (before now : ℕ) (past images : ℕ → Files → Type 0) : Type 0 where
  pub still : now ≡ before
  pub same : (moment : ℕ) (files : Files) → images moment files → past moment files
  pub kept : (moment : ℕ) (files : Files) → past moment files → images moment files

-- A call takes the room of one call at most, and one that fails where there is room is noted: time goes on.
pub record Noted (failed : Type 0) (room_before room_now before now : ℕ) : Type 0 where
  pub takes_one : room_before ≤ room_now + 1
  pub goes_on : failed → 0 < room_before → before < now

-- What a crash may leave at some moment from `since` to now.
abbrev pub LeftSince : ℕ → ℕ → (ℕ → Files → Type 0) → Files → Type 0
LeftSince since now images files = (moment : ℕ) × (since ≤ moment) × (moment ≤ now) × images moment files
