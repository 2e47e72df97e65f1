-- Where a journal has come: its books, the newest rows, and the rows that each open transaction began with.
use Rattle.std.specs.Prelude.{ℕ, Bool, true, false, List, [], ◌∷◌, Option, Some, None, option_map, option_and_then, if◌then◌else◌, nat_le}
use Rattle.std.specs.Ordering.{nat_cmp}
use Rattle.std.specs.FinMap.{FinMap, get, insert, remove, empty}
use Rattle.xod_base.specs.Rows.{RowsValue}
use Rattle.xod_journal.specs.declared.change.RowChange.{RowChange}
use Rattle.xod_journal.specs.Changes.{all_applied, all_fit}
use Rattle.xod_journal.specs.declared.journal.Step.{Step}
use Rattle.xod_journal.specs.declared.journal.Step.TheVariants.{Begin, Flush, Revert, End, Sync, Stop}
use Rattle.xod_journal.specs.declared.journal.JournalEntry.{JournalEntry}
use Rattle.xod_journal.specs.Books.{Books, booked}

-- ---- rows by the entries alone

-- the newest rows and the number of their commit
pub record Newest : Type 0 where
  pub rows : RowsValue
  pub commit : ℕ

-- a commit makes its changes on the newest rows
abbrev pub newest_step : Newest → Step → Newest
newest_step now (Flush changes (Some version)) = record { rows = all_applied now.rows changes; commit = version }
newest_step now step = now

abbrev pub newest_after : Newest → List JournalEntry → Newest
newest_after now [] = now
newest_after now (entry ∷ more) = newest_after (newest_step now entry.step) more

-- the rows with a step's changes, where it made a commit that is not past this one
abbrev pub rows_step : ℕ → RowsValue → Step → RowsValue
rows_step n rows (Flush changes (Some version)) = if nat_le version n then all_applied rows changes else rows
rows_step n rows step = rows

-- The rows after commit n of a journal that began with these rows.
abbrev pub rows_at : ℕ → RowsValue → List JournalEntry → RowsValue
rows_at n rows [] = rows
rows_at n rows (entry ∷ more) = rows_at n (rows_step n rows entry.step) more

-- ---- where a journal stands

pub record Standing : Type 0 where
  pub books : Books
  pub rows : RowsValue
  -- the rows that each open transaction began with, or reverted to, or committed
  pub bases : FinMap nat_cmp RowsValue

-- a store with these rows at this commit, and nothing open
abbrev pub opening : Newest → Standing
opening start = record {
  books = record { commit = start.commit; synced = start.commit; txns = empty; stopped = empty };
  rows = start.rows;
  bases = empty;
}

-- whether the changes of a step fit the rows that its transaction began with
abbrev pub fit_there : Option RowsValue → List RowChange → Bool
fit_there None changes = false
fit_there (Some rows) changes = all_fit rows changes

abbrev pub changes_fit : Standing → ℕ → Step → Bool
changes_fit now actor (Flush changes version) = fit_there (get now.bases actor) changes
changes_fit now actor step = true

abbrev pub bases_step : FinMap nat_cmp RowsValue → RowsValue → ℕ → Step → FinMap nat_cmp RowsValue
bases_step bases rows actor (Begin mode) = insert bases actor rows
bases_step bases rows actor (Flush changes (Some version)) = insert bases actor (all_applied rows changes)
bases_step bases rows actor (Flush changes None) = bases
bases_step bases rows actor Revert = insert bases actor rows
bases_step bases rows actor End = remove bases actor
bases_step bases rows actor Sync = bases
bases_step bases rows actor (Stop line cause origin) = remove bases actor

abbrev pub moved : Standing → ℕ → Step → Books → Standing
moved now actor step books = record {
  books = books;
  rows = (newest_step (record { rows = now.rows; commit = now.books.commit }) step).rows;
  bases = bases_step now.bases now.rows actor step;
}

-- A step is taken where the books admit it and its changes fit.
unfoldable pub after_step : Standing → ℕ → Step → Option Standing
after_step now actor step =
    if changes_fit now actor step then option_map (moved now actor step) (booked now.books actor step) else None

-- Where a journal has come that goes on from there; none where it does not stand.
abbrev pub after : Option Standing → List JournalEntry → Option Standing
after now [] = now
after now (entry ∷ more) = after (option_and_then (λ here. after_step here entry.actor entry.step) now) more
