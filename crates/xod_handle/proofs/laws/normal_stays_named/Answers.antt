use Rattle.xod_handle.proofs.Same.{stays_named}
use Rattle.xod_handle.proofs.laws.normal_stays_named.Goals as goal

pub returns : goal.returns
returns c = stays_named
