use Rattle.xod_readings.proofs.Names.{names_are_read}
use Rattle.xod_readings.proofs.laws.names_of_rows_are_read.Goals as goal

pub returns : goal.returns
returns c = names_are_read
