use Rattle.xod_tables.proofs.Decide.{one_rows}
use Rattle.xod_tables.proofs.laws.one_rows.Goals as goal

pub returns : goal.returns
returns c = one_rows
