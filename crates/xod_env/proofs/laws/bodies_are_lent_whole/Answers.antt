use Rattle.xod_env.proofs.Lending.{lent_whole}
use Rattle.xod_env.proofs.laws.bodies_are_lent_whole.Goals as goal

pub returns : goal.returns
returns c = lent_whole
