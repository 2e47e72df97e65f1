use Rattle.std.proofs.Common.{Err, ap, map, ◌∙◌}
use Rattle.std.proofs.lemmas.Result.{err_from_is_err_and}
use Rattle.std.specs.FinMap.{get}
use Rattle.xod_base.specs.Evaluation.{key_at}
use Rattle.xod_forms.specs.Ranks.{rank_of}
use Rattle.xod_iter.proofs.Going.{going-fails, going-more, map_more, next_id}
use Rattle.xod_iter.proofs.sorting.ranked.Goals as goal

pub returns-in_err-key-clause-reads : goal.returns-in_err-key-clause-reads
returns-in_err-key-clause-reads g c = λ name.
    let error = err_from_is_err_and c.from_residual.result c.from_residual.ensures.1 in
    going-fails c.loop-number.invariant (λ name rows. key_at (get rows.values (c.of_number-id.result, name))) c.numbered_key.ensures.reads
    (λ rows. map (rank_of rows name) c.args.ids.now) c.from_residual.result c.in_err-key.field-0.0 (error.1 ∙ ap Err error.2) c.in_err-key.was name

pub loop-number-preserved : goal.loop-number-preserved
loop-number-preserved g c =
    let id = c.of_number-id.result in
    let is = next_id c.as_numbers-number-items.result.now c.loop-number.number-index id c.loop-number-test.true c.of_number-id.ensures in
    going-more c.loop-number.invariant (λ name rows. key_at (get rows.values (id, name))) c.numbered_key.ensures.reads
    c.numbered_key.new.view c.in_ok-key.key _ c.push.new.self c.in_ok-key.was c.numbered_key.ensures.keeps c.in_ok-key.ensures.counts.ok
    (λ name rows found. map_more (rank_of rows name) id (record { key = c.in_ok-key.key; id = id }) c.loop-number.ranked c.push.new.self _ _ is
    (λ i. record { key = found i; id = id }) c.in_ok-push.ensures)
