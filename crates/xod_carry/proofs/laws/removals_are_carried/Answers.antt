use Rattle.xod_carry.proofs.Indexing.{carry-remove}
use Rattle.xod_carry.proofs.laws.removals_are_carried.Goals as goal

pub returns : goal.returns
returns g c = λ R S f h map key value r s own is. carry-remove r.total r.same s.total s.same f h map key value is own
