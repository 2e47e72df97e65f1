-- What a store that fails as planned keeps of its journal.
use Rattle.std.specs.Prelude.{◌≡◌, ◌≤◌, ℕ, ◌+◌, List, Some, option_map}
use Rattle.std.specs.Ordering.{nat_cmp}
use Rattle.std.specs.FinMap.{FinMap}
use Rattle.xod_journal.specs.declared.journal.JournalEntry.{JournalEntry}
use Rattle.xod_journal.specs.declared.journal.Pinned.{Pinned}
use Rattle.xod_journal.specs.Books.{Books}
use Rattle.xod_journal.specs.Seats.{books_after}
use Rattle.xod_journal.specs.Spaces.{IsCounted, device_stops}
use Rattle.xod_journal.specs.Standing.{newest_after}
use Rattle.xod_model.specs.Plain.{still_going}
use Rattle.xod_spaces.specs.Views.{start_at}

-- what it has of its books
abbrev pub kept_in : Books → ℕ × FinMap nat_cmp Pinned
kept_in books = (books.commit, books.txns)

-- The books have this newest commit and these open transactions. There is room in the journal for a stop of each session
-- that has not stopped. The stops for a device's fault are not more than the faults.
pub record Keeps (first : ℕ) (journal : List JournalEntry) (commit : ℕ) (txns : FinMap nat_cmp Pinned) (sessions used room faults : ℕ) : Type 0 where
  pub booked : option_map kept_in (books_after (start_at first) journal) ≡ Some (commit, txns)
  pub newest : (newest_after (start_at first) journal).commit ≡ commit
  pub has_room : used + still_going sessions (books_after (start_at first) journal) ≤ room
  pub counted : IsCounted (device_stops journal) faults
