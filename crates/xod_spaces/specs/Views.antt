-- A store that fails as planned, as a session sees it.
use Rattle.std.specs.Prelude.{ℕ, false, List}
use Rattle.xod_base.specs.Rows.{no_rows}
use Rattle.xod_journal.specs.declared.journal.JournalEntry.{JournalEntry}
use Rattle.xod_journal.specs.Spaces.{SpaceView}
use Rattle.xod_journal.specs.Standing.{Newest}
use Rattle.xod_spaces.specs.declared.outside.Outside.{Outside}

-- a store without contents, at a commit
abbrev pub start_at : ℕ → Newest
start_at commit = record { rows = no_rows; commit = commit }

-- It tells no rows, and nothing had failed when it was made.
abbrev pub faulty_view : ℕ → List JournalEntry → ℕ → Outside → SpaceView
faulty_view first journal sessions outside = record {
  tells = false;
  start = start_at first;
  journal = journal;
  faults = outside.faults;
  made = 0;
  sessions = sessions;
  is_broken = outside.is_broken;
  is_last = outside.is_last;
}
