use Rattle.std.proofs.Common.{Ok, ap, ◌∙◌, sym}
use Rattle.xod_keys.specs.Pieces.{name_read}
use Rattle.xod_keys.proofs.CallerLemmas.{walk-goes_on}
use Rattle.xod_names.proofs.reading.names.Goals as goal

pub walk-preserved : goal.walk-preserved
walk-preserved g c =
    walk-goes_on c.walk.invariant c.step.ensures.answers c.step.ensures.goes_on c.step.ensures.tree c.step.ensures.counts c.step.ensures.keeps
    (c.in_ok-pair.was ∙ ap Ok c.in-Some.is)
    (ap name_read (sym c.as_slice.ensures) ∙ sym c.in_ok-name.ensures ∙ c.in-Some-2.is)
    c.in_ok-push-in-Some-2.ensures
