use Rattle.std.proofs.Common.{List, ap, ◌∙◌, length, ◌==◌}
use Rattle.xod_overlay.specs.Marks.{Touch}
use Rattle.xod_overlay.proofs.Trees.{is_empty_map}
use Rattle.xod_overlay.proofs.sorted.TouchedKeys.is_empty.Goals as goal

pub returns : goal.returns
returns c =
    is_empty_map c.self.inside.pieces.items _ _ c.self.invariant c.self.view_is
    (c.is_empty.ensures ∙ ap (λ (ps : List (List Touch)). length ps == 0) c.as_slice.ensures.value)
