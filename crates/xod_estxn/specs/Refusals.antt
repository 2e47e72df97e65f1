-- A read that gave no answer, as the refusal of a statement.
use Rattle.xod_base.specs.declared.answer.StmtError.{StmtError}
use Rattle.xod_base.specs.declared.answer.StmtError.TheVariants as refusal
use Rattle.xod_base.specs.declared.causes.ReadError.{ReadError}
use Rattle.xod_base.specs.declared.causes.ReadError.TheVariants as cause

-- each cause is refused under its own name
abbrev pub refusal_of : ReadError → StmtError
refusal_of cause.Device = refusal.Device
refusal_of (cause.Damaged place) = refusal.Damaged place
refusal_of cause.Memory = refusal.Memory
