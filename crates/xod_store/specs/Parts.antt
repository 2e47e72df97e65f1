-- What a store's type keeps, in five parts.
use Rattle.std.specs.Prelude.{◌≡◌, ◌≤◌, ℕ, ◌+◌, Bool, true, false, ◌&&◌, nat_le, if◌then◌else◌, IsTrue, is_some, List, Some, option_map}
use Rattle.std.specs.Ordering.{nat_cmp}
use Rattle.std.specs.FinMap.{FinMap}
use Rattle.std.specs.List.{list_all, list_any}
use Rattle.xod_base.specs.declared.causes.Cause.{Cause}
use Rattle.xod_base.specs.declared.causes.Cause.TheVariants as cause
use Rattle.xod_base.specs.Causes.{Rose}
use Rattle.xod_base.specs.Rows.{is_sound}
use Rattle.xod_base.specs.Views.{Trees}
use Rattle.xod_env.specs.Envs.{IsSteady}
use Rattle.xod_journal.specs.declared.journal.JournalEntry.{JournalEntry}
use Rattle.xod_journal.specs.declared.journal.Pinned.{Pinned}
use Rattle.xod_journal.specs.declared.journal.Step.{Step}
use Rattle.xod_journal.specs.declared.journal.Step.TheVariants as step
use Rattle.xod_journal.specs.Books.{Books}
use Rattle.xod_journal.specs.Seats.{books_after}
use Rattle.xod_journal.specs.Spaces.{IsCounted, device_stops, is_run}
use Rattle.xod_journal.specs.Standing.{Newest, after, newest_after, opening}
use Rattle.xod_log.specs.declared.log.Log.{Log}
use Rattle.xod_tables.specs.Reading.{rows_of}
use Rattle.xod_volume.specs.Files.{Files}
use Rattle.xod_books.specs.Going.{still_going}
use Rattle.xod_store.specs.Images.{HoldsEarlier, LeavesPrefixes}

-- ---- stops

abbrev pub is_broken_cause : Cause → Bool
is_broken_cause cause.Broken = true
is_broken_cause other = false

abbrev pub is_spent_cause : Cause → Bool
is_spent_cause cause.Spent = true
is_spent_cause other = false

-- whether a step is a stop that this run met, for a cause that passes a test
abbrev pub is_stop_for : (Cause → Bool) → Step → Bool
is_stop_for test (step.Begin mode) = false
is_stop_for test step.Revert = false
is_stop_for test (step.Flush changes version) = false
is_stop_for test step.End = false
is_stop_for test step.Sync = false
is_stop_for test (step.Stop line reason origin) = if is_run origin then test reason else false

abbrev pub has_stop_for : (Cause → Bool) → List JournalEntry → Bool
has_stop_for test journal = list_any (λ entry. is_stop_for test entry.step) journal

-- whether a step is a stop
abbrev pub is_stop : Step → Bool
is_stop (step.Begin mode) = false
is_stop step.Revert = false
is_stop (step.Flush changes version) = false
is_stop step.End = false
is_stop step.Sync = false
is_stop (step.Stop line reason origin) = true

-- whether an entry is no stop, or that of one of so many sessions
abbrev pub is_seated : ℕ → JournalEntry → Bool
is_seated sessions entry = if is_stop entry.step then nat_le 1 entry.actor && nat_le entry.actor sessions else true

-- ---- part 1: journal, environment and count

-- The stops that this run met for a device's fault are no more than the count rose by. Where the environment is broken, or
-- a stop says that it was, the count rose. Where a stop says that a number was spent, a last number stands.
pub record IsAccounted (journal : List JournalEntry) (made faults : ℕ) (is_broken is_last : Bool) : Type 0 where
  pub counted : IsCounted (made + device_stops journal) faults
  pub broken : IsTrue is_broken → Rose made faults
  pub broken_stops : has_stop_for is_broken_cause journal ≡ true → Rose made faults
  pub spent_stops : has_stop_for is_spent_cause journal ≡ true → IsTrue is_last

-- ---- what holds of the books, told or not

-- what a store has of its books
abbrev pub kept_in : Books → ℕ × FinMap nat_cmp Pinned
kept_in books = (books.commit, books.txns)

-- The journal's steps are admitted; the environment's version is the newest commit, and the open transactions are those of
-- the journal. Each stop is that of a session, and there is room for one of each that has not stopped.
pub record IsBooked (start : Newest) (journal : List JournalEntry) (commit : ℕ) (txns : FinMap nat_cmp Pinned) (sessions used room : ℕ) : Type 0 where
  pub books : option_map kept_in (books_after start journal) ≡ Some (commit, txns)
  pub newest : (newest_after start journal).commit ≡ commit
  pub seated : list_all (is_seated sessions) journal ≡ true
  pub has_room : used + still_going sessions (books_after start journal) ≤ room

-- ---- parts 2 to 4: journal and start, environment, adapter

-- The journal stands from sound rows. The newest trees are the tables of its rows, and the adapter has the names of their
-- types.
pub record IsTold (start : Newest) (journal : List JournalEntry) (trees : Trees) (kinds : List (List ℕ)) : Type 0 where
  pub stands : is_some (after (Some (opening start)) journal) ≡ true
  pub sound : IsTrue (is_sound start.rows)
  pub tables : rows_of trees ≡ Some ((newest_after start journal).rows)
  pub kinds_are : kinds ≡ ((newest_after start journal).rows).types

-- ---- part 5: images

-- Since the start each image is a good store after some of the journal's commits, and at the present moment with all that
-- were synced. Where each image of some moments up to the start held what the store started with, each one of those moments
-- holds it still. An environment that is not broken is steady.
pub record IsSafe (start : Newest) (journal : List JournalEntry) (since now : ℕ) (is_broken : Bool) (log : Log) (files : Files) (first images : ℕ → Files → Type 0) : Type 0 where
  pub leaves : LeavesPrefixes start journal since now images
  pub later : since ≤ now
  pub earlier : HoldsEarlier start since first images
  pub steady : is_broken ≡ false → IsSteady log files (images now)
