use Rattle.xod_overlay.proofs.Marked.{untouched_below}
use Rattle.xod_overlay.proofs.laws.untouched_trees_are_those_below.Goals as goal

pub returns : goal.returns
returns c = untouched_below
