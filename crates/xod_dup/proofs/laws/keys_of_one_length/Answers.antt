use Rattle.xod_dup.proofs.Ends.{equal_lengths_suffice}
use Rattle.xod_dup.proofs.laws.keys_of_one_length.Goals as goal

pub returns : goal.returns
returns c = equal_lengths_suffice
