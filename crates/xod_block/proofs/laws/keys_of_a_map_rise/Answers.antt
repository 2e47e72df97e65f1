use Rattle.xod_block.proofs.MapOrder.{map_at-rises}
use Rattle.xod_block.proofs.laws.keys_of_a_map_rise.Goals as goal

pub returns : goal.returns
returns c = map_at-rises
