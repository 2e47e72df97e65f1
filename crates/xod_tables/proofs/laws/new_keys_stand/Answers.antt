use Rattle.xod_tables.proofs.Changed.{new_keys_stand}
use Rattle.xod_tables.proofs.laws.new_keys_stand.Goals as goal

pub returns : goal.returns
returns c = new_keys_stand
