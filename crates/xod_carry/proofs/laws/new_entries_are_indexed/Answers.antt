use Rattle.xod_carry.proofs.Indexing.{index-new}
use Rattle.xod_carry.proofs.laws.new_entries_are_indexed.Goals as goal

pub returns : goal.returns
returns g c = λ R S gives map key value r s new alone. index-new r.total r.same s.total s.same gives map key value new alone
