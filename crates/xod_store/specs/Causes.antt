-- Why an environment refused a call, as a session is told.
use Rattle.xod_base.specs.declared.causes.Cause.{Cause}
use Rattle.xod_base.specs.declared.causes.Cause.TheVariants as cause
use Rattle.xod_env.specs.declared.error.EnvError.{EnvError}
use Rattle.xod_env.specs.declared.error.EnvError.TheVariants.{Broken, Device, Damaged, NumbersSpent, Memory}
use Rattle.xod_journal.specs.declared.space.BeginFault.{BeginFault}
use Rattle.xod_journal.specs.declared.space.BeginFault.TheVariants as fault
use Rattle.xod_store.specs.declared.causes.BeginError.{BeginError}
use Rattle.xod_store.specs.declared.causes.BeginError.TheVariants as begin

abbrev pub cause_of : EnvError → Cause
cause_of Broken = cause.Broken
cause_of Device = cause.Device
cause_of (Damaged place) = cause.Damaged
cause_of (NumbersSpent last) = cause.Spent
cause_of Memory = cause.Memory

-- why a begin did not begin, as a session is told
abbrev pub fault_of : BeginError → BeginFault
fault_of (begin.Busy holder) = fault.Busy holder
fault_of (begin.Env error) = fault.Cause (cause_of error)
