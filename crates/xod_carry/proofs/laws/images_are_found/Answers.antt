use Rattle.xod_carry.proofs.Lookups.{get-carry}
use Rattle.xod_carry.proofs.laws.images_are_found.Goals as goal

pub returns : goal.returns
returns g c = λ R S f h map key image r s own is. get-carry r.total r.same s.total s.same f h map key image is own
