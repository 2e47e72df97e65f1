use Rattle.std.proofs.Common.{Ok, Err, None, ap, sym, ◌∙◌}
use Rattle.std.proofs.lemmas.Result.{err_from_is_err_and}
use Rattle.std.specs.FinMap.{get}
use Rattle.xod_keys.specs.Readings.{value_at}
use Rattle.xod_range.specs.Reads.{Reads}
use Rattle.xod_tables.specs.Tables.{properties_tree}
use Rattle.xod_tables.specs.declared.trees.TheConstants.{PROPERTIES}
use Rattle.xod_reader.specs.declared.slot.Slot.TheVariants.{Listed}
use Rattle.xod_reader.proofs.Told.{fails_rows, moved, ok_rows, reads_rows, value_rows}
use Rattle.xod_reader.proofs.Listing.{listed_number, no_value, not_listed, unlisted_number}
use Rattle.xod_reader.proofs.props.value_of.Goals as goal

pub returns-in_err-value-in-Listed-clause-reads : goal.returns-in_err-value-in-Listed-clause-reads
returns-in_err-value-in-Listed-clause-reads g c =
    let error = err_from_is_err_and c.from_residual-in_err-value-in-Listed.result c.from_residual-in_err-value-in-Listed.ensures.1 in
    let number = c.in-Listed.number in
    let prop = c.args.prop.now in
    fails_rows c.from_residual-in_err-value-in-Listed.result c.in_err-value-in-Listed.field-0.0 (error.1 ∙ ap Err error.2) c.in_err-value-in-Listed.was
    (reads_rows properties_tree (λ rows. get rows.values (c.args.id, prop)) (λ rows are. are.properties)
    (λ told rows are. (c.props_of_rows_are_read.ensures rows are.sound).value c.args.id prop number c.id_is_short.ensures
    (listed_number rows.props prop number (value_rows (Listed number) (c.in_ok-slot.was ∙ ap Ok c.in-Listed.is) c.slot_of.ensures.reads told rows are)))
    (moved c.slot_of.ensures.keeps (λ b ts. Reads b (ts PROPERTIES) (value_at c.args.id number) c.value_of.result) c.value_of.ensures.reads))

pub returns-in_default : goal.returns-in_default
returns-in_default g c = record {
  reads = ok_rows (c.in_ok-slot.slot, None) (λ told rows are.
      let is = value_rows c.in_ok-slot.slot c.in_ok-slot.was c.slot_of.ensures.reads told rows are in
      let none = unlisted_number rows.props c.args.prop.now c.in_ok-slot.slot is (not_listed c.in_ok-slot.slot c.in_default.not-Listed) in
      λ i. (is i, sym (no_value rows are.sound c.args.prop.now none c.args.id) i));
  counts = record { device = λ e. cc e; memory = λ e. cc e; ok = c.in_ok-slot.ensures.counts.ok };
  keeps = c.slot_of.ensures.keeps;
}
