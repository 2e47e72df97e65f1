-- The stops of a journal that this run met, by their causes.
use Rattle.std.specs.Prelude.{Bool, true, false, List, if◌then◌else◌}
use Rattle.std.specs.List.{list_any}
use Rattle.xod_base.specs.declared.causes.Cause.{Cause}
use Rattle.xod_base.specs.declared.causes.Cause.TheVariants.{Device, Broken, Damaged, Spent, Memory}
use Rattle.xod_journal.specs.declared.journal.JournalEntry.{JournalEntry}
use Rattle.xod_journal.specs.declared.journal.Step.{Step}
use Rattle.xod_journal.specs.declared.journal.Step.TheVariants as step
use Rattle.xod_journal.specs.Spaces.{is_run}

-- whether a step is a stop that this run met, for a cause that passes a test
abbrev pub is_met : (Cause → Bool) → Step → Bool
is_met test (step.Begin mode) = false
is_met test step.Revert = false
is_met test (step.Flush changes version) = false
is_met test step.End = false
is_met test step.Sync = false
is_met test (step.Stop line cause origin) = if is_run origin then test cause else false

-- whether a stop that this run met, for a cause that passes a test, stands in a journal
abbrev pub has_met : (Cause → Bool) → List JournalEntry → Bool
has_met test journal = list_any (λ entry. is_met test entry.step) journal

-- A run is disturbed where it met a stop that the order does not give.
abbrev pub is_disturbed : List JournalEntry → Bool
is_disturbed journal = has_met (λ cause. true) journal

-- a fault of the device, also an earlier one that broke the store
abbrev pub is_fault : Cause → Bool
is_fault Device = true
is_fault Broken = true
is_fault other = false

-- a store that a fault broke before
abbrev pub is_broken : Cause → Bool
is_broken Broken = true
is_broken other = false

abbrev pub is_damage : Cause → Bool
is_damage Damaged = true
is_damage other = false

abbrev pub is_spent : Cause → Bool
is_spent Spent = true
is_spent other = false

abbrev pub is_memory : Cause → Bool
is_memory Memory = true
is_memory other = false
