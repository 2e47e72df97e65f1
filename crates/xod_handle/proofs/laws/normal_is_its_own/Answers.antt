use Rattle.xod_handle.proofs.Own.{own_normal}
use Rattle.xod_handle.proofs.laws.normal_is_its_own.Goals as goal

pub returns : goal.returns
returns c = own_normal
