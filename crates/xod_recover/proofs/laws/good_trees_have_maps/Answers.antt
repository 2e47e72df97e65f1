use Rattle.xod_recover.proofs.Storing.{good-maps, stored-maps}
use Rattle.xod_recover.proofs.laws.good_trees_have_maps.Goals as goal

pub returns-clause-listed : goal.returns-clause-listed
returns-clause-listed c files newest good = good-maps files newest good

pub returns-clause-each : goal.returns-clause-each
returns-clause-each c files newest tree good = stored-maps files newest good tree
