use Rattle.xod_tables.proofs.KeysApart.{apart}
use Rattle.xod_tables.proofs.laws.keys_are_apart.Goals as goal

pub returns : goal.returns
returns c = apart
