-- What a store in lists keeps of its journal.
use Rattle.std.specs.Prelude.{◌≡◌, ◌≤◌, ℕ, zero, suc, ◌+◌, ◌-◌, ◌^◌, Bool, true, false, ◌&&◌, IsTrue, List, Option, Some, None, option_map, is_some, Result, Ok, Err, ◌==◌, if◌then◌else◌}
use Rattle.std.specs.Ordering.{nat_cmp}
use Rattle.std.specs.FinMap.{FinMap}
use Rattle.xod_base.specs.declared.causes.Cause.{Cause}
use Rattle.xod_base.specs.declared.causes.Cause.TheVariants as cause
use Rattle.xod_base.specs.declared.answer.FlushAnswer.{FlushAnswer}
use Rattle.xod_base.specs.Rows.{RowsValue, is_sound}
use Rattle.xod_journal.specs.declared.change.RowChange.{RowChange}
use Rattle.xod_journal.specs.declared.journal.JournalEntry.{JournalEntry}
use Rattle.xod_journal.specs.declared.journal.Pinned.{Pinned}
use Rattle.xod_journal.specs.Books.{Books, flush_answer, has_stopped, version_of}
use Rattle.xod_journal.specs.Seats.{books_after}
use Rattle.xod_journal.specs.Spaces.{SpaceView, device_stops, newest_of}
use Rattle.xod_journal.specs.Standing.{Newest, Standing, after, opening}

-- A store in lists as a session sees it: it tells its rows, and nothing outside of it can fail.
abbrev pub plain_view : Newest → List JournalEntry → ℕ → ℕ → SpaceView
plain_view start journal commit sessions = record {
  tells = true;
  start = start;
  journal = journal;
  faults = 0;
  made = 0;
  sessions = sessions;
  is_broken = false;
  is_last = commit == 2 ^ 64 - 1;
}

-- what a store in lists has of where its journal stands
abbrev pub kept_of : Standing → ℕ × (FinMap nat_cmp Pinned × RowsValue)
kept_of now = (now.books.commit, (now.books.txns, now.rows))

-- the number of sessions, from the first to this one, that have not stopped
abbrev pub going : ℕ → Books → ℕ
going zero books = 0
going (suc n) books = going n books + (if has_stopped books (suc n) then 0 else 1)

abbrev pub still_going : ℕ → Option Books → ℕ
still_going sessions None = 0
still_going sessions (Some books) = going sessions books

-- The journal stands, with this newest commit, these open transactions and these rows. There is room in it for a stop of
-- each session that has not stopped, and no stop is one that a device's fault made. The rows at the start are sound.
pub record Keeps (start : Newest) (journal : List JournalEntry) (commit : ℕ) (txns : FinMap nat_cmp Pinned) (rows : RowsValue) (sessions used room : ℕ) : Type 0 where
  pub stands : option_map kept_of (after (Some (opening start)) journal) ≡ Some (commit, (txns, rows))
  pub has_room : used + still_going sessions (books_after start journal) ≤ room
  pub undisturbed : device_stops journal ≡ 0
  pub sound : IsTrue (is_sound start.rows)

-- Nothing outside of a space can fail, and the last number that may stand is that of its newest commit.
pub record CannotFail (space : SpaceView) : Type 0 where
  pub tells : space.tells ≡ true
  pub faults : space.faults ≡ 0
  pub made : space.made ≡ 0
  pub is_broken : space.is_broken ≡ false
  pub is_last : space.is_last ≡ ((newest_of space).commit == 2 ^ 64 - 1)

-- whether a flush would need the number after the last one
abbrev pub needs_more : ℕ → ℕ → List RowChange → Bool
needs_more commit base changes = is_some (version_of (flush_answer commit base changes)) && (commit == 2 ^ 64 - 1)

-- Why a flush was refused: `Spent` exactly where it needs the number after the last one, or want of memory.
abbrev pub SpentExactly : Bool → Result FlushAnswer Cause → Type 0
SpentExactly more (Ok answer) = more ≡ false
SpentExactly more (Err cause.Device) = ⊥
SpentExactly more (Err cause.Broken) = ⊥
SpentExactly more (Err cause.Damaged) = ⊥
SpentExactly more (Err cause.Spent) = more ≡ true
SpentExactly more (Err cause.Memory) = Unit {0}
