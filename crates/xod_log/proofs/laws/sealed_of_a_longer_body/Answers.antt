use Rattle.xod_log.proofs.Claims.{sealed-longer}
use Rattle.xod_log.proofs.laws.sealed_of_a_longer_body.Goals as goal

pub returns : goal.returns
returns c = sealed-longer
