use Rattle.xod_block.specs.Rising.{records_of-branches}
use Rattle.xod_block.proofs.laws.nodes_of_bodies_branch.Goals as goal

pub returns : goal.returns
returns c = records_of-branches
