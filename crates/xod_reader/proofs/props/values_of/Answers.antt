use Rattle.std.proofs.Common.{Err, ap, subst, ◌∙◌}
use Rattle.std.proofs.lemmas.Result.{err_from_is_err_and}
use Rattle.std.specs.List.Sorted.{IsPermutation}
use Rattle.xod_readings.specs.Lists.{numbered_values}
use Rattle.xod_tables.proofs.CallerLemmas.{facts}
use Rattle.xod_tables.specs.Tables.{properties_tree}
use Rattle.xod_reader.specs.Naming.{NamesEach, named_value}
use Rattle.xod_reader.proofs.ValueParts.{sorted_values, value_numbers}
use Rattle.xod_reader.proofs.Named.{named_rows}
use Rattle.xod_reader.proofs.Told.{fails_rows, moved, ok_rows, reads_rows, value_rows}
use Rattle.xod_reader.proofs.props.values_of.Goals as goal

pub returns-in_err-named-clause-reads : goal.returns-in_err-named-clause-reads
returns-in_err-named-clause-reads g c =
    let error = err_from_is_err_and c.from_residual-in_err-named.result c.from_residual-in_err-named.ensures.1 in
    fails_rows c.from_residual-in_err-named.result c.in_err-named.field-0.0 (error.1 ∙ ap Err error.2) c.in_err-named.was
    (named_rows (λ rows. numbered_values rows c.args.id)
    (value_rows c.in_ok-numbered.numbered c.in_ok-numbered.was
    (reads_rows properties_tree (λ rows. numbered_values rows c.args.id) (λ rows are. are.properties)
    (λ told rows are. (c.props_of_rows_are_read.ensures rows are.sound).all c.args.id c.id_is_short.ensures) c.values_of.ensures.reads))
    (λ rows sound. value_numbers rows (facts rows sound) c.args.id)
    (moved c.values_of.ensures.keeps (λ b ts. NamesEach b ts (λ rows. rows.props) named_value c.in_ok-numbered.numbered c.name_values.result) c.name_values.ensures.reads))

pub returns-clause-reads : goal.returns-clause-reads
returns-clause-reads g c = ok_rows c.sort_values.result (λ told rows are.
    let named = value_rows c.in_ok-named.named c.in_ok-named.was
    (named_rows (λ rows. numbered_values rows c.args.id)
    (value_rows c.in_ok-numbered.numbered c.in_ok-numbered.was
    (reads_rows properties_tree (λ rows. numbered_values rows c.args.id) (λ rows are. are.properties)
    (λ told rows are. (c.props_of_rows_are_read.ensures rows are.sound).all c.args.id c.id_is_short.ensures) c.values_of.ensures.reads))
    (λ rows sound. value_numbers rows (facts rows sound) c.args.id)
    (moved c.values_of.ensures.keeps (λ b ts. NamesEach b ts (λ rows. rows.props) named_value c.in_ok-numbered.numbered c.name_values.result) c.name_values.ensures.reads)) told rows are in
    sorted_values rows (facts rows are.sound) c.args.id c.sort_values.result
    (subst (λ list. IsPermutation list c.sort_values.result) named c.sort_values.ensures.moved) c.sort_values.ensures.sorted)
