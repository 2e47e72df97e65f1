use Rattle.xod_block.proofs.MapLemmas.{map_at-step}
use Rattle.xod_block.proofs.laws.map_of_a_record.Goals as goal

pub returns : goal.returns
returns c = map_at-step
