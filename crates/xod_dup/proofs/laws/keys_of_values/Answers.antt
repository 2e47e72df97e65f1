use Rattle.xod_dup.proofs.Ends.{keys_of_values_end}
use Rattle.xod_dup.proofs.laws.keys_of_values.Goals as goal

pub returns : goal.returns
returns c = keys_of_values_end
