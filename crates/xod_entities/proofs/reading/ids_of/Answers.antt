use Rattle.std.proofs.Common.{Ok, ap, ◌∙◌, sym}
use Rattle.xod_keys.specs.Pieces.{id_read}
use Rattle.xod_keys.proofs.CallerLemmas.{walk-goes_on}
use Rattle.xod_entities.proofs.reading.ids_of.Goals as goal

pub walk-preserved : goal.walk-preserved
walk-preserved g c =
    walk-goes_on c.walk.invariant c.step.ensures.answers c.step.ensures.goes_on c.step.ensures.tree c.step.ensures.counts c.step.ensures.keeps
    (c.in_ok-pair.was ∙ ap Ok c.in-Some.is)
    (ap id_read (sym c.as_slice.ensures) ∙ sym c.in-Some-read_id.ensures)
    c.in_ok-push-in-Some-read_id.ensures
