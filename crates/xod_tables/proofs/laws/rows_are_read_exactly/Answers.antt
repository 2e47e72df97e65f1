use Rattle.xod_tables.proofs.Decide.{rows_of_tables, tables_of_rows}
use Rattle.xod_tables.proofs.laws.rows_are_read_exactly.Goals as goal

pub returns : goal.returns
returns c = λ trees rows. (tables_of_rows trees rows, rows_of_tables trees rows)
