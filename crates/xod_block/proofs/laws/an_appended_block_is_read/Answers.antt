use Rattle.xod_block.proofs.Growth.{appended-keeps}
use Rattle.xod_block.proofs.laws.an_appended_block_is_read.Goals as goal

pub returns : goal.returns
returns c = appended-keeps
