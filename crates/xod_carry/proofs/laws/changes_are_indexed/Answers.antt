use Rattle.xod_carry.proofs.Indexing.{index-change}
use Rattle.xod_carry.proofs.laws.changes_are_indexed.Goals as goal

pub returns : goal.returns
returns g c = λ R S gives map key old new r s is before after. index-change r.total r.same s.total s.same gives map key old new is before after
