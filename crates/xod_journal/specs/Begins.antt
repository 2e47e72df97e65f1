-- Why a begin did not begin.
use Rattle.std.specs.Prelude.{◌≡◌, Some, None}
use Rattle.xod_base.specs.declared.query.Mode.{Mode}
use Rattle.xod_base.specs.Causes.{Rose}
use Rattle.xod_journal.specs.declared.space.BeginFault.{BeginFault}
use Rattle.xod_journal.specs.declared.space.BeginFault.TheVariants.{Busy, Cause}
use Rattle.xod_journal.specs.Seats.{busy_of}
use Rattle.xod_journal.specs.Spaces.{Refuses, SpaceView}

-- Busy exactly where another transaction is in the way, with the least actor who has one; it goes before every cause.
-- Nothing is appended.
abbrev pub DoesNotBegin : Mode → SpaceView → SpaceView → BeginFault → Type 0
DoesNotBegin mode old new (Busy actor) = (busy_of old.start old.journal mode ≡ Some actor) × (new.journal ≡ old.journal)
DoesNotBegin mode old new (Cause reason) = (busy_of old.start old.journal mode ≡ None) × Refuses old new (Rose old.faults new.faults) ⊥ reason
