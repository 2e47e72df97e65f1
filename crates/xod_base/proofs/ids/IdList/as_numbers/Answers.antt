use Rattle.std.proofs.Common.{sym, ap, ◌∙◌, map}
use Rattle.xod_base.specs.Ids.{number_of_id}
use Rattle.xod_base.proofs.IdNumbers.{numbers_back}
use Rattle.xod_base.proofs.ids.IdList.as_numbers.Goals as goal

pub returns-clause-numbers : goal.returns-clause-numbers
returns-clause-numbers c = c.as_slice.ensures.value ∙ sym (ap (map number_of_id) (sym c.self.view_is) ∙ numbers_back _)
