use Rattle.std.proofs.Common.{sym, ap, ◌∙◌, map}
use Rattle.xod_base.specs.Ids.{number_of_id}
use Rattle.xod_base.proofs.IdNumbers.{numbers_back}
use Rattle.xod_base.proofs.ids.IdList.into_numbers.Goals as goal

pub returns : goal.returns
returns c = sym (ap (map number_of_id) (sym c.self.view_is) ∙ numbers_back _)
