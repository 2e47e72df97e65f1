use Rattle.xod_readings.proofs.PropsAll.{props_are_read}
use Rattle.xod_readings.proofs.laws.props_of_rows_are_read.Goals as goal

pub returns : goal.returns
returns c = props_are_read c.joined_keys_are_in_the_order_of_pairs.ensures
