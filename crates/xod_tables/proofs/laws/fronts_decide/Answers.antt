use Rattle.xod_tables.proofs.KeyOrders.{fronts}
use Rattle.xod_tables.proofs.laws.fronts_decide.Goals as goal

pub returns : goal.returns
returns c = fronts
