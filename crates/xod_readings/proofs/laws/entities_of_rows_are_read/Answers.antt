use Rattle.xod_readings.proofs.Entities.{entities_read}
use Rattle.xod_readings.proofs.laws.entities_of_rows_are_read.Goals as goal

pub returns : goal.returns
returns c = entities_read
