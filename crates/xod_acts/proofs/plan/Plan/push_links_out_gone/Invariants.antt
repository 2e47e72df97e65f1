use Rattle.std.proofs.Common.{◌≡◌, drop}
use Rattle.xod_acts.specs.Acts.{without_links_out}
use Rattle.xod_acts.proofs.plan.Plan.push_links_out_gone.Given as goal

abbrev pub invariant-loop-part : goal.invariant-loop-part
invariant-loop-part l = without_links_out l.id (drop l.part-index l.links) l.self ≡ without_links_out l.id l.links l.initial.self
