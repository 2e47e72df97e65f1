use Rattle.xod_recover.proofs.BadLemmas.{bad_trees-agree}
use Rattle.xod_recover.proofs.laws.later_records_change_no_walk.Goals as goal

pub returns : goal.returns
returns c old new had has root trees records bodies = bad_trees-agree old new had has root trees (record { records = records; bodies = bodies })
