use Rattle.std.proofs.Common.{Err, not, ap, subst, ◌∙◌}
use Rattle.std.proofs.lemmas.Result.{err_from_is_err_and}
use Rattle.std.specs.List.{filter}
use Rattle.std.specs.List.Sorted.{IsPermutation}
use Rattle.xod_base.specs.Rows.{same_id}
use Rattle.xod_readings.specs.Lists.{numbered_sources}
use Rattle.xod_tables.proofs.CallerLemmas.{facts}
use Rattle.xod_tables.specs.Tables.{back_tree}
use Rattle.xod_reader.specs.Naming.{NamesEach, named_link}
use Rattle.xod_reader.proofs.LinkParts.{sorted_sources, source_numbers}
use Rattle.xod_reader.proofs.Named.{named_rows}
use Rattle.xod_reader.proofs.Told.{fails_rows, moved, ok_rows, reads_rows, value_rows}
use Rattle.xod_reader.proofs.links.links_in.Goals as goal

pub returns-in_err-named-clause-reads : goal.returns-in_err-named-clause-reads
returns-in_err-named-clause-reads g c =
    let error = err_from_is_err_and c.from_residual-in_err-named.result c.from_residual-in_err-named.ensures.1 in
    fails_rows c.from_residual-in_err-named.result c.in_err-named.field-0.0 (error.1 ∙ ap Err error.2) c.in_err-named.was
    (named_rows (λ rows. filter (λ link. not (same_id link.1 c.args.target)) (numbered_sources rows c.args.target))
    (λ told rows are. c.without_end.ensures ∙ ap (filter (λ link. not (same_id link.1 c.args.target))) (value_rows c.in_ok-numbered.numbered c.in_ok-numbered.was
    (reads_rows back_tree (λ rows. numbered_sources rows c.args.target) (λ rows are. are.linked_back)
    (λ told rows are. (c.links_of_rows_are_read.ensures rows are.sound).into c.args.target c.id_is_short.ensures) c.links_in.ensures.reads) told rows are))
    (λ rows sound. source_numbers rows (facts rows sound) sound c.args.target c.id_is_short.ensures)
    (moved c.links_in.ensures.keeps (λ b ts. NamesEach b ts (λ rows. rows.links) named_link c.without_end.result c.name_links.result) c.name_links.ensures.reads))

pub returns-clause-reads : goal.returns-clause-reads
returns-clause-reads g c = ok_rows c.sort_sources.result (λ told rows are.
    let named = value_rows c.in_ok-named.named c.in_ok-named.was
    (named_rows (λ rows. filter (λ link. not (same_id link.1 c.args.target)) (numbered_sources rows c.args.target))
    (λ told rows are. c.without_end.ensures ∙ ap (filter (λ link. not (same_id link.1 c.args.target))) (value_rows c.in_ok-numbered.numbered c.in_ok-numbered.was
    (reads_rows back_tree (λ rows. numbered_sources rows c.args.target) (λ rows are. are.linked_back)
    (λ told rows are. (c.links_of_rows_are_read.ensures rows are.sound).into c.args.target c.id_is_short.ensures) c.links_in.ensures.reads) told rows are))
    (λ rows sound. source_numbers rows (facts rows sound) sound c.args.target c.id_is_short.ensures)
    (moved c.links_in.ensures.keeps (λ b ts. NamesEach b ts (λ rows. rows.links) named_link c.without_end.result c.name_links.result) c.name_links.ensures.reads)) told rows are in
    sorted_sources rows (facts rows are.sound) are.sound c.args.target c.id_is_short.ensures c.sort_sources.result
    (subst (λ list. IsPermutation list c.sort_sources.result) named c.sort_sources.ensures.moved) c.sort_sources.ensures.sorted)
