use Rattle.std.proofs.Common.{◌≡◌, ◌+◌, drop}
use Rattle.std.specs.Option.{option_map}
use Rattle.xod_base.specs.Rows.{number_of}
use Rattle.xod_model.proofs.names.number_of.Given as goal

abbrev pub invariant-loop-i : goal.invariant-loop-i
invariant-loop-i l = number_of l.names l.name ≡ option_map (λ n. l.i + n) (number_of (drop l.i l.names) l.name)
