use Rattle.std.proofs.Common.{ap, map, sym, take, ◌∙◌}
use Rattle.std.proofs.lemmas.List.{take-map}
use Rattle.xod_base.specs.Ids.{id_of_number}
use Rattle.xod_forms.proofs.parts.taken.Goals as goal

pub returns : goal.returns
returns c =
    let numbers = c.into_numbers-numbers.ensures ∙ sym c.as_numbers.ensures.numbers in
    c.from_numbers.ensures
    ∙ ap (map id_of_number) (c.truncate.ensures.items ∙ ap (take c.args.count) numbers)
    ∙ sym (take-map id_of_number c.args.count c.as_numbers.result.now)
    ∙ ap (take c.args.count) c.as_numbers.ensures.ids
