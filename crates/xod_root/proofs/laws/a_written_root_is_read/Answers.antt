use Rattle.xod_root.proofs.Listed.{root-again}
use Rattle.xod_root.proofs.laws.a_written_root_is_read.Goals as goal

pub returns : goal.returns
returns c = root-again
