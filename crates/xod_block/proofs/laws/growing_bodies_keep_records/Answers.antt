use Rattle.xod_block.proofs.Growth.{growth-keeps}
use Rattle.xod_block.proofs.laws.growing_bodies_keep_records.Goals as goal

pub returns : goal.returns
returns c = growth-keeps
