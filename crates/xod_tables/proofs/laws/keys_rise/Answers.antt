use Rattle.xod_tables.proofs.KeyOrders.{rise}
use Rattle.xod_tables.proofs.laws.keys_rise.Goals as goal

pub returns : goal.returns
returns c = rise c.joined_keys_are_in_the_order_of_pairs.ensures
