use Rattle.std.proofs.Common.{◌≡◌, length}
use Rattle.xod_overlay.specs.Marks.{touched}
use Rattle.xod_overlay.specs.Restoring.{undone}
use Rattle.xod_overlay.proofs.overlay.Overlay.undo.Given as goal

abbrev pub invariant-back : goal.invariant-back
invariant-back l = undone (touched l.self) l.left.items ≡ undone (touched l.initial.self) l.fn.made.items

abbrev pub decreases-back : goal.decreases-back
decreases-back l = length l.left.items
