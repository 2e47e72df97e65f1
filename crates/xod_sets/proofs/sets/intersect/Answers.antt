use Rattle.std.proofs.Common.{◌∙◌}
use Rattle.xod_sets.proofs.Passes.{ids}
use Rattle.xod_sets.proofs.Rising.{rises_of}
use Rattle.xod_sets.proofs.Steps.{both}
use Rattle.xod_sets.proofs.sets.intersect.Goals as goal

pub returns-clause-rises : goal.returns-clause-rises
returns-clause-rises c = rises_of _ (both (ids c.as_numbers.result.now) (ids c.as_numbers-2.result.now)) (c.from_numbers.ensures ∙ c.in_ok-numbers.ensures)
