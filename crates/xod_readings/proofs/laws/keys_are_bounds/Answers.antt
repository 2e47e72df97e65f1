use Rattle.xod_readings.proofs.Bounds.{keys_bound}
use Rattle.xod_readings.proofs.laws.keys_are_bounds.Goals as goal

pub returns : goal.returns
returns c = keys_bound c.no_key_begins_another.ensures
