use Rattle.xod_commit.proofs.Fitting.{fit-more, fit-none}
use Rattle.xod_commit.proofs.laws.touches_stay_fit.Goals as goal

pub returns-clause-none : goal.returns-clause-none
returns-clause-none c = fit-none

pub returns-clause-one_more : goal.returns-clause-one_more
returns-clause-one_more c = fit-more
