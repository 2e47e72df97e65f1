use Rattle.xod_dup.proofs.JoinedKeys.{joined_keys_rise}
use Rattle.xod_dup.proofs.laws.joined_keys_are_in_the_order_of_pairs.Goals as goal

pub returns : goal.returns
returns c = joined_keys_rise
