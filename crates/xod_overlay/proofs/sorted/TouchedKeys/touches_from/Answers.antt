use Rattle.std.proofs.Common.{List, ◌∙◌, ap, sym}
use Rattle.std.specs.FinMap.{entries, entries-from_sorted}
use Rattle.xod_base.specs.Values.{bytes_cmp}
use Rattle.xod_overlay.specs.Marks.{Touch}
use Rattle.xod_overlay.specs.Pieces.{joined}
use Rattle.xod_overlay.specs.Places.{from, passes}
use Rattle.xod_overlay.proofs.sorted.TouchedKeys.touches_from.Goals as goal

pub returns : goal.returns
returns c =
    c.rest_from.ensures
    ∙ ap (from (passes c.args.strict c.args.key.now))
    (ap (λ (ps : List (List Touch)). joined ps) c.as_slice.ensures.value ∙ sym (entries-from_sorted bytes_cmp (joined c.self.inside.pieces.items) c.self.invariant.by_key) ∙ ap entries c.self.view_is)
