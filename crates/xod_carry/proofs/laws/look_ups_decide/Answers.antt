use Rattle.xod_carry.proofs.Lookups.{same_by_lookups}
use Rattle.xod_carry.proofs.laws.look_ups_decide.Goals as goal

pub returns : goal.returns
returns g c = λ R list map r apart all many. same_by_lookups r.total r.same list map apart all many
