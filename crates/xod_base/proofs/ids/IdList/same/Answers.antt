use Rattle.std.proofs.Common.{sym, ap, ◌∙◌, map}
use Rattle.xod_base.specs.Ids.{id_of_number, number_of_id}
use Rattle.xod_base.proofs.ids.IdList.same.Goals as goal

pub returns : goal.returns
returns c = (
  λ t. sym c.as_numbers.ensures.ids ∙ ap (map id_of_number) (c.same_numbers.ensures.0 t) ∙ c.as_numbers-2.ensures.ids,
  λ e. c.same_numbers.ensures.1 (c.as_numbers.ensures.numbers ∙ ap (map number_of_id) e ∙ sym c.as_numbers-2.ensures.numbers),
)
