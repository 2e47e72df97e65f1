use Rattle.xod_recover.proofs.Storing.{good-rows}
use Rattle.xod_recover.proofs.laws.good_stores_have_rows.Goals as goal

pub returns : goal.returns
returns c files good = good-rows files good
