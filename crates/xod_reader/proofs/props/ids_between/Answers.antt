use Rattle.std.proofs.Common.{Ok, Err, Some, None, ap, sym, ◌∙◌}
use Rattle.std.proofs.lemmas.Result.{err_from_is_err_and}
use Rattle.std.specs.List.{filter}
use Rattle.xod_base.specs.declared.answer.NameKind.TheVariants.{Props}
use Rattle.xod_base.specs.Evaluation.{has_value, ids_with, ids_with_number}
use Rattle.xod_base.specs.Rows.{number_of}
use Rattle.xod_base.specs.Values.{has_key_within}
use Rattle.xod_keys.specs.Readings.{ids_between}
use Rattle.xod_range.specs.Reads.{Reads}
use Rattle.xod_tables.proofs.CallerLemmas.{facts}
use Rattle.xod_tables.specs.LookUps.{names_of}
use Rattle.xod_tables.specs.Tables.{index_tree}
use Rattle.xod_tables.specs.declared.trees.TheConstants.{INDEX}
use Rattle.xod_reader.specs.Told.{ReadsRows}
use Rattle.xod_reader.proofs.Listing.{absent, none_with}
use Rattle.xod_reader.proofs.Named.{keeps_on}
use Rattle.xod_reader.proofs.Told.{fails_rows, moved, number_small, ok_rows, reads_rows, value_rows}
use Rattle.xod_reader.proofs.props.ids_between.Goals as goal

pub returns-in_err-kind-clause-reads : goal.returns-in_err-kind-clause-reads
returns-in_err-kind-clause-reads g c =
    let error = err_from_is_err_and c.from_residual.result c.from_residual.ensures.1 in
    fails_rows c.from_residual.result c.in_err-kind.field-0.0 (error.1 ∙ ap Err error.2) c.in_err-kind.was c.number_of.ensures.reads

pub returns-in_default-clause-reads : goal.returns-in_default-clause-reads
returns-in_default-clause-reads g c =
    let none = absent c.in_ok-kind.field-0 c.in_default.not-Some in
    ok_rows c.new.result (λ told rows are. c.new.ensures
    ∙ ap (λ found. filter (has_value rows c.args.prop.now (has_key_within c.args.low.now c.args.high.now)) (ids_with_number rows found))
    (value_rows None (c.in_ok-kind.was ∙ ap Ok none) c.number_of.ensures.reads told rows are))

pub returns-in_err-prop-clause-reads : goal.returns-in_err-prop-clause-reads
returns-in_err-prop-clause-reads g c =
    let error = err_from_is_err_and c.from_residual-in_err-prop.result c.from_residual-in_err-prop.ensures.1 in
    fails_rows c.from_residual-in_err-prop.result c.in_err-prop.field-0.0 (error.1 ∙ ap Err error.2) c.in_err-prop.was
    (moved c.number_of.ensures.keeps (λ b ts. ReadsRows b ts (λ rows. number_of (names_of rows Props) c.args.prop.now) c.number_of-2.result) c.number_of-2.ensures.reads)

pub returns-in_default-2-clause-reads : goal.returns-in_default-2-clause-reads
returns-in_default-2-clause-reads g c =
    let props = moved c.number_of.ensures.keeps (λ b ts. ReadsRows b ts (λ rows. number_of (names_of rows Props) c.args.prop.now) c.number_of-2.result) c.number_of-2.ensures.reads in
    let none = absent c.in_ok-prop.field-0 c.in_default-2.not-Some in
    ok_rows c.new-in_default-2.result (λ told rows are. c.new-in_default-2.ensures
    ∙ sym (none_with rows are.sound c.args.prop.now (sym (value_rows None (c.in_ok-prop.was ∙ ap Ok none) props told rows are)) c.args.kind.now (has_key_within c.args.low.now c.args.high.now)))

pub returns-clause-reads : goal.returns-clause-reads
returns-clause-reads g c =
    let props = moved c.number_of.ensures.keeps (λ b ts. ReadsRows b ts (λ rows. number_of (names_of rows Props) c.args.prop.now) c.number_of-2.result) c.number_of-2.ensures.reads in
    let kind = c.in-Some.kind in
    let prop = c.in-Some-2.prop in
    let low = c.args.low.now in
    let high = c.args.high.now in
    reads_rows index_tree (λ rows. ids_with rows c.args.kind.now c.args.prop.now (has_key_within low high)) (λ rows are. are.indexed)
    (λ told rows are.
    let kind_is = value_rows (Some kind) (c.in_ok-kind.was ∙ ap Ok c.in-Some.is) c.number_of.ensures.reads told rows are in
    let prop_is = value_rows (Some prop) (c.in_ok-prop.was ∙ ap Ok c.in-Some-2.is) props told rows are in
    (c.props_of_rows_are_read.ensures rows are.sound).between kind c.args.prop.now prop low high
    (number_small rows.types ((facts rows are.sound).types) c.args.kind.now kind kind_is) (sym prop_is) c.requires.low c.requires.high
    ∙ ap (λ found. Some (filter (has_value rows c.args.prop.now (has_key_within low high)) (ids_with_number rows found))) kind_is)
    (moved (keeps_on c.number_of.ensures.keeps c.number_of-2.ensures.keeps) (λ b ts. Reads b (ts INDEX) (ids_between kind prop low high) c.ids_between.result) c.ids_between.ensures.reads)
