use Rattle.std.proofs.Common.{ℕ, Ok, Err, Option, Some, None, ap, ◌∙◌}
use Rattle.std.proofs.lemmas.Result.{err_from_is_err_and}
use Rattle.xod_base.specs.declared.answer.NameKind.TheVariants.{Kinds}
use Rattle.xod_base.specs.Evaluation.{ids_of as ids_in, ids_with_number}
use Rattle.xod_keys.specs.Readings.{ids_at}
use Rattle.xod_range.specs.Reads.{Reads}
use Rattle.xod_tables.proofs.CallerLemmas.{facts}
use Rattle.xod_tables.specs.Tables.{entities_tree}
use Rattle.xod_tables.specs.declared.trees.TheConstants.{ENTITIES}
use Rattle.xod_reader.proofs.Told.{fails_rows, moved, number_rows, number_small, ok_rows, reads_rows, value_rows}
use Rattle.xod_reader.proofs.entities.ids_of.Goals as goal

pub returns-in_err-number-clause-reads : goal.returns-in_err-number-clause-reads
returns-in_err-number-clause-reads g c =
    let error = err_from_is_err_and c.from_residual.result c.from_residual.ensures.1 in
    fails_rows c.from_residual.result c.in_err-number.field-0.0 (error.1 ∙ ap Err error.2) c.in_err-number.was
    (number_rows c.names_of_rows_are_read.ensures Kinds c.args.kind.now c.number_of.ensures.reads)

pub returns-in-Some-clause-reads : goal.returns-in-Some-clause-reads
returns-in-Some-clause-reads g c =
    let number = c.in-Some.number in
    let numbered = number_rows c.names_of_rows_are_read.ensures Kinds c.args.kind.now c.number_of.ensures.reads in
    reads_rows entities_tree (λ rows. ids_in rows c.args.kind.now) (λ rows are. are.entities)
    (λ told rows are.
    let is = value_rows (Some number) (c.in_ok-number.was ∙ ap Ok c.in-Some.is) numbered told rows are in
    (c.entities_of_rows_are_read.ensures rows are.sound).all number (number_small rows.types ((facts rows are.sound).types) c.args.kind.now number is)
    ∙ ap (λ (found : Option ℕ). Some (ids_with_number rows found)) is)
    (moved c.number_of.ensures.keeps (λ b ts. Reads b (ts ENTITIES) (ids_at number) c.ids_of.result) c.ids_of.ensures.reads)

pub returns-in-None-clause-reads : goal.returns-in-None-clause-reads
returns-in-None-clause-reads g c =
    let numbered = number_rows c.names_of_rows_are_read.ensures Kinds c.args.kind.now c.number_of.ensures.reads in
    ok_rows c.new.result (λ told rows are. c.new.ensures ∙ ap (ids_with_number rows) (value_rows None (c.in_ok-number.was ∙ ap Ok c.in-None.is) numbered told rows are))
