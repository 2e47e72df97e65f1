-- Why a call is refused, and what no call changes of the outside.
use Rattle.std.specs.Prelude.{◌≤◌, ℕ, Bool, true, false, IsTrue, List}
use Rattle.xod_base.specs.Causes.{Rose}
use Rattle.xod_base.specs.declared.causes.Cause.{Cause}
use Rattle.xod_journal.specs.declared.journal.JournalEntry.{JournalEntry}
use Rattle.xod_journal.specs.Spaces.{HasReason, IsFault}
use Rattle.xod_spaces.specs.declared.outside.Outside.{Outside}
use Rattle.xod_spaces.specs.Views.{faulty_view}

-- The count never falls, what is broken stays so, and so does a last number that stands.
pub record StaysOut (old new : Outside) : Type 0 where
  pub never_falls : old.faults ≤ new.faults
  pub stays_broken : IsTrue old.is_broken → IsTrue new.is_broken
  pub stays_last : IsTrue old.is_last → IsTrue new.is_last

-- a flush alone finds that a last number stands
abbrev pub Spends : Bool → Bool → Type 0
Spends true is_last = IsTrue is_last
Spends false is_last = ⊥

-- why a call is refused, whatever the journal is
abbrev pub IsReasonIn : Outside → Outside → Bool → Cause → Type 0
IsReasonIn old new flushes reason = (first : ℕ) (journal : List JournalEntry) (sessions : ℕ)
    → HasReason (faulty_view first journal sessions old) (Rose old.faults new.faults) (Spends flushes new.is_last) reason

-- why a transaction can't go on at its commit
abbrev pub IsFaultIn : Outside → Outside → Cause → Type 0
IsFaultIn old new reason = (first : ℕ) (before now : List JournalEntry) (sessions : ℕ)
    → IsFault (faulty_view first before sessions old) (faulty_view first now sessions new) reason
