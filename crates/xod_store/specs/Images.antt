-- What a crash may leave of a store.
use Rattle.std.specs.Prelude.{◌≡◌, ◌≤◌, ℕ, true, is_some, List, Some, option_map}
use Rattle.std.specs.Option.{unwrap_or}
use Rattle.xod_journal.specs.declared.journal.JournalEntry.{JournalEntry}
use Rattle.xod_journal.specs.Seats.{books_after}
use Rattle.xod_journal.specs.Standing.{Newest, newest_after, rows_at}
use Rattle.xod_recover.specs.Stores.{commit_in, rows_in, stored_in}
use Rattle.xod_volume.specs.Crash.{LeftSince}
use Rattle.xod_volume.specs.Files.{Files}

-- the number of the commit that an image stores
abbrev pub commit_left : Files → ℕ
commit_left left = unwrap_or (commit_in left) 0

-- the newest commit of a journal that is on the disk
abbrev pub synced_in : Newest → List JournalEntry → ℕ
synced_in start journal = unwrap_or (option_map (λ books. books.synced) (books_after start journal)) 0

-- An image is a good store after some of a journal's commits, none included: its number is among them, and its rows are
-- those at that number.
pub record IsPrefix (start : Newest) (journal : List JournalEntry) (left : Files) : Type 0 where
  pub good : is_some (stored_in left) ≡ true
  pub low : start.commit ≤ commit_left left
  pub high : commit_left left ≤ (newest_after start journal).commit
  pub rows : rows_in left ≡ Some (rows_at (commit_left left) start.rows journal)

-- Each image since a moment is so, and each one at the present moment has all that was synced.
pub record LeavesPrefixes (start : Newest) (journal : List JournalEntry) (since now : ℕ) (images : ℕ → Files → Type 0) : Type 0 where
  pub each : (left : Files) → LeftSince since now images left → IsPrefix start journal left
  pub synced : (left : Files) → images now left → synced_in start journal ≤ commit_left left

-- Files store these rows at this commit.
pub record Holds (files : Files) (newest : Newest) : Type 0 where
  pub rows : rows_in files ≡ Some newest.rows
  pub commit : commit_in files ≡ Some newest.commit

-- Where each image of the moments from one on up to `since` held these rows at this commit, so does each of those images.
abbrev pub HoldsEarlier : Newest → ℕ → (ℕ → Files → Type 0) → (ℕ → Files → Type 0) → Type 0
HoldsEarlier newest since first images = (low : ℕ) → ((moment : ℕ) (left : Files) → low ≤ moment → moment ≤ since → first moment left → Holds left newest)
    → (moment : ℕ) (left : Files) → low ≤ moment → moment ≤ since → images moment left → Holds left newest
