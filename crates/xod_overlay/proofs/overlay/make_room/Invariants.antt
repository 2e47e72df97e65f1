use Rattle.std.proofs.Common.{◌≡◌, ◌+◌, ◌-◌, length}
use Rattle.xod_overlay.specs.Marks.{touched}
use Rattle.xod_overlay.proofs.overlay.make_room.Given as goal

abbrev pub invariant-room : goal.invariant-room
invariant-room l = touched l.trees.items ≡ touched l.initial.trees.items

abbrev pub decreases-room : goal.decreases-room
decreases-room l = l.tree + 1 - length l.trees.items
