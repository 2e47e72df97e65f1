use Rattle.std.proofs.Common.{Ok, ap, ◌∙◌, sym}
use Rattle.xod_keys.specs.Pieces.{entry_read}
use Rattle.xod_keys.proofs.CallerLemmas.{walk-goes_on}
use Rattle.xod_props.proofs.reading.ids_of_keys.Goals as goal

pub walk-preserved : goal.walk-preserved
walk-preserved g c =
    walk-goes_on c.walk.invariant c.step.ensures.answers c.step.ensures.goes_on c.step.ensures.tree c.step.ensures.counts c.step.ensures.keeps
    (c.in_ok-pair.was ∙ ap Ok c.in-Some.is)
    (ap entry_read (sym c.as_slice.ensures) ∙ sym c.read_entry.ensures ∙ c.in-Some-read_entry.is)
    c.in_ok-push-in-Some-read_entry.ensures
