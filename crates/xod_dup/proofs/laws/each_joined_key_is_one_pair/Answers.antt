use Rattle.xod_dup.proofs.JoinedKeys.{pairs_come_back}
use Rattle.xod_dup.proofs.laws.each_joined_key_is_one_pair.Goals as goal

pub returns : goal.returns
returns c = pairs_come_back
