use Rattle.xod_block.specs.Rising.{records_of-rises}
use Rattle.xod_block.proofs.laws.children_of_bodies_rise.Goals as goal

pub returns : goal.returns
returns c = records_of-rises
