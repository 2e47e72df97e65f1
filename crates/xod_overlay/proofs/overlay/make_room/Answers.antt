use Rattle.std.proofs.Common.{[], ◌∷◌, ◌++◌, ◌∙◌, ap}
use Rattle.xod_overlay.specs.Marks.{TouchMap, touched}
use Rattle.xod_overlay.proofs.Trees.{touched-push}
use Rattle.xod_overlay.proofs.overlay.make_room.Goals as goal

pub room-preserved : goal.room-preserved
room-preserved c =
    ap touched (c.in_ok-push.ensures.items ∙ ap (λ (k : TouchMap). c.room.trees.items ++ k ∷ []) c.new.ensures)
    ∙ touched-push c.room.trees.items
    ∙ c.room.invariant
