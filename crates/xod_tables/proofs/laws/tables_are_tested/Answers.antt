use Rattle.xod_tables.proofs.Decide.{tested, passes}
use Rattle.xod_tables.proofs.laws.tables_are_tested.Goals as goal

pub returns : goal.returns
returns c = λ trees rows. (tested trees rows, passes trees rows)
