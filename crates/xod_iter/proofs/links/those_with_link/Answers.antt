use Rattle.std.proofs.Common.{Err, ap, sym, ◌∙◌}
use Rattle.std.proofs.lemmas.Result.{err_from_is_err_and}
use Rattle.std.specs.List.{filter}
use Rattle.xod_base.specs.Evaluation.{has_link}
use Rattle.xod_iter.proofs.Going.{filter_more, filter_same, going-fails, going-more, next_id}
use Rattle.xod_iter.proofs.links.those_with_link.Goals.{then-has_it+in_ok-push, else-has_it}
use Rattle.xod_iter.proofs.links.those_with_link.Goals as goal

pub returns-in_err-has_it-clause-reads : goal.returns-in_err-has_it-clause-reads
returns-in_err-has_it-clause-reads g c = λ name.
    let error = err_from_is_err_and c.from_residual.result c.from_residual.ensures.1 in
    going-fails c.loop-number.invariant (λ name rows. has_link rows name c.of_number-id.result) c.has_link.ensures.reads
    (λ rows. filter (has_link rows name) c.args.ids.now) c.from_residual.result c.in_err-has_it.field-0.0 (error.1 ∙ ap Err error.2) c.in_err-has_it.was name

pub loop-number-preserved : goal.loop-number-preserved
loop-number-preserved g c =
    let id = c.of_number-id.result in
    let is = next_id c.as_numbers-number-items.result.now c.loop-number.number-index id c.loop-number-test.true c.of_number-id.ensures in
    going-more c.loop-number.invariant (λ name rows. has_link rows name id) c.has_link.ensures.reads
    c.has_link.new.view c.in_ok-has_it.has_it _ c.if-has_it.found c.in_ok-has_it.was c.has_link.ensures.keeps c.in_ok-has_it.ensures.counts.ok
    (λ name rows found. elim c.if-has_it.branch [
      | then-has_it+in_ok-push w ↦ filter_more (has_link rows name) id c.loop-number.found c.if-has_it.found _ _ is (sym w.if-has_it.true ∙ found) (w.found-is ∙ w.in_ok-push.ensures)
      | else-has_it w ↦ filter_same (has_link rows name) id c.loop-number.found c.if-has_it.found _ _ is (sym w.if-has_it.false ∙ found) w.found-is
    ])
