use Rattle.xod_carry.proofs.Carrying.{carry-from_entries}
use Rattle.xod_carry.proofs.laws.lists_are_carried.Goals as goal

pub returns : goal.returns
returns g c = λ R S f h list r s apart. carry-from_entries r.total r.same s.total s.same f h apart list
