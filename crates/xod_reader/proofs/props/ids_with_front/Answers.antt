use Rattle.std.proofs.Common.{◌++◌, ◌∷◌, [], sym, subst, ◌∙◌}
use Rattle.xod_base.specs.Evaluation.{ids_with}
use Rattle.xod_base.specs.Values.{folded, has_key_within}
use Rattle.xod_readings.specs.Laws.{IsBound, IsHighBound}
use Rattle.xod_reader.proofs.Fronts.{front_high, front_low, front_with}
use Rattle.xod_reader.proofs.Told.{reads_as}
use Rattle.xod_reader.proofs.props.ids_with_front.Goals as goal

pub ids_between-requires-clause-low : goal.ids_between-requires-clause-low
ids_between-requires-clause-low g c =
    let is = c.as_slice.ensures ∙ c.in_ok-low.ensures ∙ (λ i. 3 ∷ folded (c.as_bytes.ensures.bytes i)) in
    subst IsBound (sym is) (front_low c.args.text.now c.as_bytes.ensures.text)

pub ids_between-requires-clause-high : goal.ids_between-requires-clause-high
ids_between-requires-clause-high g c =
    let is = c.as_slice-2.ensures ∙ c.in_ok-push.ensures ∙ (λ i. (c.in_ok-high.ensures i) ++ 255 ∷ []) ∙ (λ i. 3 ∷ folded (c.as_bytes-2.ensures.bytes i) ++ 255 ∷ []) in
    subst IsHighBound (sym is) (front_high c.args.text.now c.as_bytes.ensures.text)

pub returns-clause-reads : goal.returns-clause-reads
returns-clause-reads g c =
    let low = c.as_slice.ensures ∙ c.in_ok-low.ensures ∙ (λ i. 3 ∷ folded (c.as_bytes.ensures.bytes i)) in
    let high = c.as_slice-2.ensures ∙ c.in_ok-push.ensures ∙ (λ i. (c.in_ok-high.ensures i) ++ 255 ∷ []) ∙ (λ i. 3 ∷ folded (c.as_bytes-2.ensures.bytes i) ++ 255 ∷ []) in
    reads_as (λ told rows are. (λ i. ids_with rows c.args.kind.now c.args.prop.now (has_key_within (low i) (high i)))
    ∙ front_with rows are.sound c.args.kind.now c.args.prop.now c.args.text.now c.as_bytes.ensures.text) c.ids_between.ensures.reads
