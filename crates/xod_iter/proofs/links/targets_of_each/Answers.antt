use Rattle.std.proofs.Common.{Err, ap, ◌∙◌}
use Rattle.std.proofs.lemmas.Result.{err_from_is_err_and}
use Rattle.std.specs.List.{flat_map}
use Rattle.xod_base.specs.Evaluation.{targets_of}
use Rattle.xod_iter.proofs.Going.{flat_map_more, going-fails, going-more, next_id}
use Rattle.xod_iter.proofs.links.targets_of_each.Goals as goal

pub returns-in_err-targets-clause-reads : goal.returns-in_err-targets-clause-reads
returns-in_err-targets-clause-reads g c = λ name.
    let error = err_from_is_err_and c.from_residual.result c.from_residual.ensures.1 in
    going-fails c.loop-number.invariant (λ name rows. targets_of rows name c.of_number.result) c.targets_of.ensures.reads
    (λ rows. flat_map (targets_of rows name) c.args.ids.now) c.from_residual.result c.in_err-targets.field-0.0 (error.1 ∙ ap Err error.2) c.in_err-targets.was name

pub loop-number-preserved : goal.loop-number-preserved
loop-number-preserved g c =
    let is = next_id c.as_numbers-number-items.result.now c.loop-number.number-index c.of_number.result c.loop-number-test.true c.of_number.ensures in
    going-more c.loop-number.invariant (λ name rows. targets_of rows name c.of_number.result) c.targets_of.ensures.reads
    c.targets_of.new.view c.in_ok-targets.targets _ c.append.new.self c.in_ok-targets.was c.targets_of.ensures.keeps c.in_ok-targets.ensures.counts.ok
    (λ name rows found. flat_map_more (targets_of rows name) c.of_number.result c.in_ok-targets.targets c.loop-number.found c.append.new.self _ _ is found c.in_ok-append.ensures)
