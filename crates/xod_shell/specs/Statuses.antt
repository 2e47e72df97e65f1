-- The status that a run's stops and its closing make.
use Rattle.std.specs.Prelude.{ℕ, Bool, false, ◌||◌, List, Option, Some, None, if◌then◌else◌}
use Rattle.xod_base.specs.declared.causes.Cause.{Cause}
use Rattle.xod_journal.specs.declared.journal.JournalEntry.{JournalEntry}
use Rattle.xod_play.specs.Stops.{has_met, is_damage, is_fault, is_memory, is_spent}

-- whether closing was refused for a cause that passes a test
abbrev pub is_refused_for : (Cause → Bool) → Option Cause → Bool
is_refused_for test None = false
is_refused_for test (Some cause) = test cause

-- The status of a run with a journal, whose store was closed or not for a cause: that of the first cause in this order that
-- a session or the closing met, and 0 where neither met one.
abbrev pub status_after : List JournalEntry → Option Cause → ℕ
status_after journal closing =
    if has_met is_fault journal || is_refused_for is_fault closing then 4
    else if has_met is_damage journal || is_refused_for is_damage closing then 8
    else if has_met is_spent journal || is_refused_for is_spent closing then 10
    else if has_met is_memory journal || is_refused_for is_memory closing then 5
    else 0
