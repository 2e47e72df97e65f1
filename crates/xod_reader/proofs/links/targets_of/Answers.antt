use Rattle.std.proofs.Common.{Ok, Err, ap, sym, ◌∙◌}
use Rattle.std.proofs.lemmas.Result.{err_from_is_err_and}
use Rattle.xod_base.specs.Evaluation.{targets_of as targets_in}
use Rattle.xod_keys.specs.Readings.{ends_at}
use Rattle.xod_range.specs.Reads.{Reads}
use Rattle.xod_tables.specs.Tables.{links_tree}
use Rattle.xod_tables.specs.declared.trees.TheConstants.{LINKS}
use Rattle.xod_reader.specs.declared.slot.Slot.TheVariants.{Listed}
use Rattle.xod_reader.proofs.Told.{fails_rows, moved, ok_rows, reads_rows, value_rows}
use Rattle.xod_reader.proofs.Listing.{listed_number, no_targets, not_listed, unlisted_number}
use Rattle.xod_reader.proofs.links.targets_of.Goals as goal

pub returns-in_err-targets-in-Listed-clause-reads : goal.returns-in_err-targets-in-Listed-clause-reads
returns-in_err-targets-in-Listed-clause-reads g c =
    let error = err_from_is_err_and c.from_residual-in_err-targets-in-Listed.result c.from_residual-in_err-targets-in-Listed.ensures.1 in
    let number = c.in-Listed.number in
    let link = c.args.link.now in
    fails_rows c.from_residual-in_err-targets-in-Listed.result c.in_err-targets-in-Listed.field-0.0 (error.1 ∙ ap Err error.2) c.in_err-targets-in-Listed.was
    (reads_rows links_tree (λ rows. targets_in rows link c.args.source) (λ rows are. are.linked)
    (λ told rows are. (c.links_of_rows_are_read.ensures rows are.sound).targets c.args.source link number c.id_is_short.ensures
    (listed_number rows.links link number (value_rows (Listed number) (c.in_ok-slot.was ∙ ap Ok c.in-Listed.is) c.slot_of.ensures.reads told rows are)))
    (moved c.slot_of.ensures.keeps (λ b ts. Reads b (ts LINKS) (ends_at c.args.source number) c.targets_of.result) c.targets_of.ensures.reads))

pub returns-in_ok-targets-in-Listed-clause-reads : goal.returns-in_ok-targets-in-Listed-clause-reads
returns-in_ok-targets-in-Listed-clause-reads g c =
    let number = c.in-Listed.number in
    let link = c.args.link.now in
    let targets = c.in_ok-targets-in-Listed.targets in
    ok_rows (Listed number, targets) (λ told rows are.
    let slot = value_rows (Listed number) (c.in_ok-slot.was ∙ ap Ok c.in-Listed.is) c.slot_of.ensures.reads told rows are in
    let there = value_rows targets c.in_ok-targets-in-Listed.was
    (reads_rows links_tree (λ rows. targets_in rows link c.args.source) (λ rows are. are.linked)
    (λ told rows are. (c.links_of_rows_are_read.ensures rows are.sound).targets c.args.source link number c.id_is_short.ensures
    (listed_number rows.links link number (value_rows (Listed number) (c.in_ok-slot.was ∙ ap Ok c.in-Listed.is) c.slot_of.ensures.reads told rows are)))
    (moved c.slot_of.ensures.keeps (λ b ts. Reads b (ts LINKS) (ends_at c.args.source number) c.targets_of.result) c.targets_of.ensures.reads)) told rows are in
    λ i. (slot i, there i))

pub returns-in_default : goal.returns-in_default
returns-in_default g c = record {
  reads = ok_rows (c.in_ok-slot.slot, c.new.result) (λ told rows are.
      let is = value_rows c.in_ok-slot.slot c.in_ok-slot.was c.slot_of.ensures.reads told rows are in
      let none = unlisted_number rows.links c.args.link.now c.in_ok-slot.slot is (not_listed c.in_ok-slot.slot c.in_default.not-Listed) in
      let targets = c.new.ensures ∙ sym (no_targets rows are.sound c.args.link.now none c.args.source) in
      λ i. (is i, targets i));
  counts = record { device = λ e. cc e; memory = λ e. cc e; ok = c.in_ok-slot.ensures.counts.ok };
  keeps = c.slot_of.ensures.keeps;
}
