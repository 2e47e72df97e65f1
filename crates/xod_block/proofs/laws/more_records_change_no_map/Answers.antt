use Rattle.xod_block.proofs.MoreRecords.{map_at-more}
use Rattle.xod_block.proofs.laws.more_records_change_no_map.Goals as goal

pub returns : goal.returns
returns c = map_at-more
