use Rattle.std.proofs.Common.{Err, None, ap, sym, ◌∙◌}
use Rattle.std.proofs.lemmas.Result.{err_from_is_err_and}
use Rattle.std.specs.FinMap.{get}
use Rattle.xod_base.specs.Evaluation.{key_at}
use Rattle.xod_tables.specs.Tables.{properties_tree}
use Rattle.xod_reader.proofs.CallerLemmas.{no_value}
use Rattle.xod_iter.proofs.Such.{fails_such, ok_such, reads_such}
use Rattle.xod_iter.proofs.sorting.numbered_key.Goals as goal

pub returns-in_err-value-in-Some-clause-reads : goal.returns-in_err-value-in-Some-clause-reads
returns-in_err-value-in-Some-clause-reads g c = λ name.
    let error = err_from_is_err_and c.from_residual.result c.from_residual.ensures.1 in
    fails_such c.from_residual.result c.in_err-value-in-Some.field-0.0 (error.1 ∙ ap Err error.2) c.in_err-value-in-Some.was
    (reads_such properties_tree (λ rows. get rows.values (c.args.id, name)) (λ rows are. are.properties)
    (λ rows are such. (c.props_of_rows_are_read.ensures rows are.sound).value c.args.id name c.in-Some.prop c.id_is_short.ensures (such ∙ c.in-Some.is)) c.value_of.ensures.reads)

pub returns-in-None-clause-reads : goal.returns-in-None-clause-reads
returns-in-None-clause-reads g c = λ name. ok_such None (λ told rows are such. sym (ap key_at (no_value rows are.sound name (such ∙ c.in-None.is) c.args.id)))
