use Rattle.xod_carry.proofs.Carrying.{carry-insert}
use Rattle.xod_carry.proofs.laws.puts_are_carried.Goals as goal

pub returns : goal.returns
returns g c = λ R S f h map key value r s own. carry-insert r.total r.same s.total s.same f h map key value own
