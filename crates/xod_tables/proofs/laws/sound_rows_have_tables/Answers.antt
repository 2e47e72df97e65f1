use Rattle.xod_tables.proofs.Decide.{have_tables}
use Rattle.xod_tables.proofs.laws.sound_rows_have_tables.Goals as goal

pub returns : goal.returns
returns c = have_tables
