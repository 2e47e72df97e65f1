use Rattle.xod_block.proofs.MapLemmas.{map_at-agree}
use Rattle.xod_block.proofs.laws.later_records_change_no_map.Goals as goal

pub returns : goal.returns
returns c = map_at-agree
