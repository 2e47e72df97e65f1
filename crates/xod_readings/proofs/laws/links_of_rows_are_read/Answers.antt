use Rattle.xod_readings.proofs.Links.{links_read}
use Rattle.xod_readings.proofs.laws.links_of_rows_are_read.Goals as goal

pub returns : goal.returns
returns c = links_read
