use Rattle.std.proofs.Common.{ℕ, Ok, ap, ◌∙◌, sym}
use Rattle.std.specs.Option.{option_map}
use Rattle.xod_base.specs.declared.value.EntityId.{EntityId}
use Rattle.xod_range.specs.Ranges.{in_range}
use Rattle.xod_keys.specs.Pieces.{link_read}
use Rattle.xod_keys.proofs.CallerLemmas.{walk-begins, walk-goes_on}
use Rattle.xod_links.proofs.reading.ends_in.Goals as goal

pub walk-init : goal.walk-init
walk-init g c =
    walk-begins (λ map. c.in_ok-range.ensures.begins map ∙ λ i. in_range (c.link_key.ensures i) (c.link_key-2.ensures i) map)
    c.in_ok-range.ensures.tree c.new-ids.ensures

pub walk-preserved : goal.walk-preserved
walk-preserved g c =
    walk-goes_on c.walk.invariant c.step.ensures.answers c.step.ensures.goes_on c.step.ensures.tree c.step.ensures.counts c.step.ensures.keeps
    (c.in_ok-pair.was ∙ ap Ok c.in-Some.is)
    (ap (option_map (λ (found : ℕ × EntityId). found.1)) (ap link_read (sym c.as_slice.ensures) ∙ sym c.read_link.ensures ∙ c.in-Some-read_link.is))
    c.in_ok-push.ensures
