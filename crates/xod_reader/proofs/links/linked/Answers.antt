use Rattle.std.proofs.Common.{Ok, Err, false, ap, sym, ◌∙◌}
use Rattle.std.specs.Prelude.{is_some}
use Rattle.std.proofs.lemmas.Result.{err_from_is_err_and}
use Rattle.std.specs.FinMap.{get}
use Rattle.xod_base.specs.Evaluation.{is_linked}
use Rattle.xod_base.specs.Views.{Answers}
use Rattle.xod_tables.specs.Keys.{link_key}
use Rattle.xod_tables.specs.Tables.{links_tree}
use Rattle.xod_tables.specs.declared.trees.TheConstants.{LINKS}
use Rattle.xod_reader.specs.declared.slot.Slot.TheVariants.{Listed}
use Rattle.xod_reader.proofs.Told.{answers_rows, fails_rows, moved, ok_rows, value_rows}
use Rattle.xod_reader.proofs.Listing.{listed_number, no_link, not_listed, unlisted_number}
use Rattle.xod_reader.proofs.links.linked.Goals as goal

pub returns-in_err-is_linked-in-Listed-clause-reads : goal.returns-in_err-is_linked-in-Listed-clause-reads
returns-in_err-is_linked-in-Listed-clause-reads g c =
    let error = err_from_is_err_and c.from_residual-in_err-is_linked-in-Listed.result c.from_residual-in_err-is_linked-in-Listed.ensures.1 in
    let number = c.in-Listed.number in
    let link = c.args.link.now in
    fails_rows c.from_residual-in_err-is_linked-in-Listed.result c.in_err-is_linked-in-Listed.field-0.0 (error.1 ∙ ap Err error.2) c.in_err-is_linked-in-Listed.was
    (answers_rows links_tree (λ rows. is_linked rows link c.args.target c.args.source) (λ rows are. are.linked)
    (λ told rows are. (c.links_of_rows_are_read.ensures rows are.sound).linked c.args.source link number c.args.target c.id_is_short.ensures c.id_is_short-2.ensures
    (listed_number rows.links link number (value_rows (Listed number) (c.in_ok-slot.was ∙ ap Ok c.in-Listed.is) c.slot_of.ensures.reads told rows are)))
    (moved c.slot_of.ensures.keeps (λ b ts. Answers b (ts LINKS) (λ map. is_some (get map (link_key c.args.source number c.args.target))) c.linked.result) c.linked.ensures.answers))

pub returns-in_default : goal.returns-in_default
returns-in_default g c = record {
  reads = ok_rows (c.in_ok-slot.slot, false) (λ told rows are.
      let is = value_rows c.in_ok-slot.slot c.in_ok-slot.was c.slot_of.ensures.reads told rows are in
      let none = unlisted_number rows.links c.args.link.now c.in_ok-slot.slot is (not_listed c.in_ok-slot.slot c.in_default.not-Listed) in
      λ i. (is i, sym (ap is_some (no_link rows are.sound c.args.link.now none c.args.source c.args.target)) i));
  counts = record { device = λ e. cc e; memory = λ e. cc e; ok = c.in_ok-slot.ensures.counts.ok };
  keeps = c.slot_of.ensures.keeps;
}
