use Rattle.std.proofs.Common.{Err, ap, subst, ◌∙◌}
use Rattle.std.proofs.lemmas.Result.{err_from_is_err_and}
use Rattle.std.specs.List.Sorted.{IsPermutation}
use Rattle.xod_readings.specs.Lists.{numbered_targets}
use Rattle.xod_tables.proofs.CallerLemmas.{facts}
use Rattle.xod_tables.specs.Tables.{links_tree}
use Rattle.xod_reader.specs.Naming.{NamesEach, named_link}
use Rattle.xod_reader.proofs.LinkParts.{sorted_targets, target_numbers}
use Rattle.xod_reader.proofs.Named.{named_rows}
use Rattle.xod_reader.proofs.Told.{fails_rows, moved, ok_rows, reads_rows, value_rows}
use Rattle.xod_reader.proofs.links.links_out.Goals as goal

pub returns-in_err-named-clause-reads : goal.returns-in_err-named-clause-reads
returns-in_err-named-clause-reads g c =
    let error = err_from_is_err_and c.from_residual-in_err-named.result c.from_residual-in_err-named.ensures.1 in
    fails_rows c.from_residual-in_err-named.result c.in_err-named.field-0.0 (error.1 ∙ ap Err error.2) c.in_err-named.was
    (named_rows (λ rows. numbered_targets rows c.args.source)
    (value_rows c.in_ok-numbered.numbered c.in_ok-numbered.was
    (reads_rows links_tree (λ rows. numbered_targets rows c.args.source) (λ rows are. are.linked)
    (λ told rows are. (c.links_of_rows_are_read.ensures rows are.sound).out c.args.source c.id_is_short.ensures) c.links_out.ensures.reads))
    (λ rows sound. target_numbers rows (facts rows sound) sound c.args.source c.id_is_short.ensures)
    (moved c.links_out.ensures.keeps (λ b ts. NamesEach b ts (λ rows. rows.links) named_link c.in_ok-numbered.numbered c.name_links.result) c.name_links.ensures.reads))

pub returns-clause-reads : goal.returns-clause-reads
returns-clause-reads g c = ok_rows c.sort_targets.result (λ told rows are.
    let named = value_rows c.in_ok-named.named c.in_ok-named.was
    (named_rows (λ rows. numbered_targets rows c.args.source)
    (value_rows c.in_ok-numbered.numbered c.in_ok-numbered.was
    (reads_rows links_tree (λ rows. numbered_targets rows c.args.source) (λ rows are. are.linked)
    (λ told rows are. (c.links_of_rows_are_read.ensures rows are.sound).out c.args.source c.id_is_short.ensures) c.links_out.ensures.reads))
    (λ rows sound. target_numbers rows (facts rows sound) sound c.args.source c.id_is_short.ensures)
    (moved c.links_out.ensures.keeps (λ b ts. NamesEach b ts (λ rows. rows.links) named_link c.in_ok-numbered.numbered c.name_links.result) c.name_links.ensures.reads)) told rows are in
    sorted_targets rows (facts rows are.sound) are.sound c.args.source c.id_is_short.ensures c.sort_targets.result
    (subst (λ list. IsPermutation list c.sort_targets.result) named c.sort_targets.ensures.moved) c.sort_targets.ensures.sorted)
