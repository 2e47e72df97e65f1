use Rattle.xod_carry.proofs.Indexing.{index-remove}
use Rattle.xod_carry.proofs.laws.removals_are_indexed.Goals as goal

pub returns : goal.returns
returns g c = λ R S gives map key value r s is alone. index-remove r.total r.same s.total s.same gives map key value is alone
