use Rattle.xod_trial.proofs.Begun.{types-read}
use Rattle.xod_trial.proofs.txn.types_of.Goals as goal

pub returns-clause-of_rows : goal.returns-clause-of_rows
returns-clause-of_rows g c = types-read c.names_of_rows_are_read.ensures c.names.ensures.reads
