use Rattle.xod_carry.proofs.Carrying.{carry_back}
use Rattle.xod_carry.proofs.laws.tables_come_back.Goals as goal

pub returns : goal.returns
returns g c = λ R S f h f_back h_back map r s apart all. carry_back f h f_back h_back r.total r.same s.total s.same apart map all
