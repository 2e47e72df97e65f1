use Rattle.std.proofs.Common.{Ok, ap, ◌∙◌, sym}
use Rattle.xod_range.specs.Ranges.{in_range}
use Rattle.xod_keys.proofs.CallerLemmas.{walk-begins, walk-goes_on, walk-broken}
use Rattle.xod_props.proofs.reading.values_of.Goals as goal

pub walk-init : goal.walk-init
walk-init g c =
    walk-begins (λ map. c.in_ok-range.ensures.begins map ∙ λ i. in_range (c.property_key-low.ensures i) (c.property_key-high.ensures i) map)
    c.in_ok-range.ensures.tree c.new-values.ensures

pub returns-in-None-clause-reads : goal.returns-in-None-clause-reads
returns-in-None-clause-reads g c =
    walk-broken _ c.walk.invariant c.step.ensures.answers (c.in_ok-pair.was ∙ ap Ok c.in-Some.is) (sym c.in_ok-read_numbered.ensures ∙ c.in-None.is)

pub walk-preserved : goal.walk-preserved
walk-preserved g c =
    walk-goes_on c.walk.invariant c.step.ensures.answers c.step.ensures.goes_on c.step.ensures.tree c.step.ensures.counts c.step.ensures.keeps
    (c.in_ok-pair.was ∙ ap Ok c.in-Some.is) (sym c.in_ok-read_numbered.ensures ∙ c.in-Some-2.is) c.in_ok-push-in-Some-2.ensures
