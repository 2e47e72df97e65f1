use Rattle.std.proofs.Common.{sym, subst, ◌∙◌}
use Rattle.xod_base.specs.Evaluation.{ids_with}
use Rattle.xod_base.specs.Values.{has_key_within}
use Rattle.xod_readings.specs.Laws.{IsBound, IsHighBound}
use Rattle.xod_reader.proofs.Told.{reads_as}
use Rattle.xod_reader.proofs.props.ids_within.Goals as goal

pub ids_between-requires-clause-low : goal.ids_between-requires-clause-low
ids_between-requires-clause-low g c =
    let bound = c.keys_are_bounds.ensures c.args.low.now c.value_fits.ensures in
    subst IsBound (sym (c.as_slice.ensures ∙ c.in_ok-first.ensures)) bound.is_bound

pub ids_between-requires-clause-high : goal.ids_between-requires-clause-high
ids_between-requires-clause-high g c =
    subst IsHighBound (sym (c.as_slice-2.ensures ∙ c.in_ok-last.ensures)) (c.keys_are_bounds.ensures c.args.high.now c.value_fits-2.ensures)

pub returns-clause-reads : goal.returns-clause-reads
returns-clause-reads g c =
    let low = c.as_slice.ensures ∙ c.in_ok-first.ensures in
    let high = c.as_slice-2.ensures ∙ c.in_ok-last.ensures in
    reads_as (λ told rows are. λ i. ids_with rows c.args.kind.now c.args.prop.now (has_key_within (low i) (high i))) c.ids_between.ensures.reads
