use Rattle.std.proofs.Common.{◌≡◌, drop}
use Rattle.xod_acts.specs.Acts.{without_values}
use Rattle.xod_acts.proofs.plan.Plan.push_values_gone.Given as goal

abbrev pub invariant-loop-part : goal.invariant-loop-part
invariant-loop-part l = without_values l.id (drop l.part-index l.values) l.self ≡ without_values l.id l.values l.initial.self
