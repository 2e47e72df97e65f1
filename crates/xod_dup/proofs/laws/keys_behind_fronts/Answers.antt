use Rattle.xod_dup.proofs.Ends.{fronts_keep_ends}
use Rattle.xod_dup.proofs.laws.keys_behind_fronts.Goals as goal

pub returns : goal.returns
returns c = fronts_keep_ends
