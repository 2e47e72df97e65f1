use Rattle.std.proofs.Common.{List, ap, map, ◌∙◌}
use Rattle.xod_reader.specs.declared.parts.NamedValue.{NamedValue}
use Rattle.xod_estxn.proofs.Moving.{ok_rows}
use Rattle.xod_estxn.proofs.Showing.{values-parts}
use Rattle.xod_estxn.proofs.show.props_of.Goals as goal

pub returns-clause-reads : goal.returns-clause-reads
returns-clause-reads g c = ok_rows _ (λ told rows are.
    c.in_ok-props.ensures
    ∙ ap (λ (values : List NamedValue). map (λ value. (value.name, value.value)) values) (c.into_vec.ensures ∙ c.in_ok-values.ensures.reads.value told rows are)
    ∙ values-parts rows c.args.id)
