use Rattle.xod_reader.proofs.Told.{number_rows}
use Rattle.xod_reader.proofs.slot.number_of.Goals as goal

pub returns-clause-reads : goal.returns-clause-reads
returns-clause-reads g c = number_rows c.names_of_rows_are_read.ensures c.args.list c.args.name.now c.number_of.ensures.reads
