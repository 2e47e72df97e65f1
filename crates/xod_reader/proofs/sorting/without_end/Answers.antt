use Rattle.std.proofs.Common.{rules, ap, ◌∙◌}
use Rattle.std.specs.Prelude.{not}
use Rattle.std.specs.List.{filter}
use Rattle.std.proofs.lemmas.Fn.{filter_same}
use Rattle.xod_base.specs.Rows.{same_id}
use Rattle.xod_reader.proofs.sorting.without_end.Goals as goal

pub returns : goal.returns
returns c = c.from_vec.ensures
    ∙ filter_same _ (λ link. not (same_id link.1 c.args.id)) _ (λ link b f h. search rules) _ _ c.retain.ensures.filtered
    ∙ ap (filter (λ link. not (same_id link.1 c.args.id))) c.into_vec-items.ensures
