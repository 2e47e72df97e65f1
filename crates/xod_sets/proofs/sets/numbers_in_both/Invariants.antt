use Rattle.std.proofs.Common.{◌+◌, length}
use Rattle.xod_sets.proofs.Passes.{Passes, ids}
use Rattle.xod_sets.proofs.Steps.{both}
use Rattle.xod_sets.proofs.sets.numbers_in_both.Given as goal

abbrev pub invariant-loop-first : goal.invariant-loop-first
invariant-loop-first l = Passes both l.numbers.items l.left l.right (both (ids l.fn.a) (ids l.fn.b))

abbrev pub decreases-loop-first : goal.decreases-loop-first
decreases-loop-first l = length l.left + length l.right
