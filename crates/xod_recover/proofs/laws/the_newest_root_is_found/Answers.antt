use Rattle.xod_recover.proofs.Newests.{check-newest, newest-check}
use Rattle.xod_recover.proofs.laws.the_newest_root_is_found.Goals as goal

pub returns : goal.returns
returns c files newest = (check-newest files newest, newest-check files newest)
