use Rattle.std.proofs.Common.{◌≡◌, length}
use Rattle.xod_handle.specs.Forms.{onto}
use Rattle.xod_handle.proofs.parts.nested_onto.Given as goal

abbrev pub invariant-loop-part : goal.invariant-loop-part
invariant-loop-part l = onto l.join l.parts.items l.whole ≡ onto l.fn.join l.fn.parts.items l.fn.last

abbrev pub decreases-loop-part : goal.decreases-loop-part
decreases-loop-part l = length l.parts.items
