use Rattle.xod_tables.proofs.Nothing.{no_tables}
use Rattle.xod_tables.proofs.laws.empty_trees_are_no_rows.Goals as goal

pub returns : goal.returns
returns c = no_tables
