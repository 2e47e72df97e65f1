use Rattle.xod_tables.proofs.Touching.{touches_show}
use Rattle.xod_tables.proofs.laws.touches_show_as_writes.Goals as goal

pub returns : goal.returns
returns c = touches_show c.puts_show.ensures c.removals_show.ensures
