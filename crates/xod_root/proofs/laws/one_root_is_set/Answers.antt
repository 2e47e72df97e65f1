use Rattle.xod_root.proofs.Setting.{get-with_root, get-with_root-other, len-with_root}
use Rattle.xod_root.proofs.laws.one_root_is_set.Goals as goal

pub returns-clause-own : goal.returns-clause-own
returns-clause-own c = get-with_root

pub returns-clause-others : goal.returns-clause-others
returns-clause-others c = get-with_root-other

pub returns-clause-one_more_at_most : goal.returns-clause-one_more_at_most
returns-clause-one_more_at_most c = len-with_root
