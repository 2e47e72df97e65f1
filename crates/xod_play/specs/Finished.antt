-- What the end of all sessions leaves of a space.
use Rattle.std.specs.Prelude.{◌≡◌, Bool, true, false, List, ◌++◌, Some, option_map}
use Rattle.std.specs.FinMap.{empty}
use Rattle.std.specs.List.{list_all}
use Rattle.xod_journal.specs.declared.journal.JournalEntry.{JournalEntry}
use Rattle.xod_journal.specs.declared.journal.Origin.{Origin}
use Rattle.xod_journal.specs.declared.journal.Origin.TheVariants as origin
use Rattle.xod_journal.specs.declared.journal.Step.{Step}
use Rattle.xod_journal.specs.declared.journal.Step.TheVariants as step
use Rattle.xod_journal.specs.Seats.{books_after}
use Rattle.xod_journal.specs.Spaces.{SpaceView}

abbrev pub is_left : Origin → Bool
is_left origin.Run = false
is_left origin.Order = false
is_left origin.Left = true

-- whether a step is the stop of a session that was left with its transaction open
abbrev pub is_left_stop : Step → Bool
is_left_stop (step.Begin mode) = false
is_left_stop step.Revert = false
is_left_stop (step.Flush changes version) = false
is_left_stop step.End = false
is_left_stop step.Sync = false
is_left_stop (step.Stop line cause from) = is_left from

-- The journal has stops more, of sessions that were left with a transaction open, and no other entries; where all were done
-- it has none, and the space is as it was. No transaction is open.
pub record HasFinished (old new : SpaceView) (were_done : Bool) : Type 0 where
  pub left : List JournalEntry
  pub grown : new.journal ≡ old.journal ++ left
  pub only : list_all (λ entry. is_left_stop entry.step) left ≡ true
  pub none : were_done ≡ true → new ≡ old
  pub closed : option_map (λ books. books.txns) (books_after new.start new.journal) ≡ Some empty
