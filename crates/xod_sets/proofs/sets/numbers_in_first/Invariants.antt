use Rattle.std.proofs.Common.{◌+◌, length}
use Rattle.xod_sets.proofs.Passes.{Passes, ids}
use Rattle.xod_sets.proofs.Steps.{first_alone}
use Rattle.xod_sets.proofs.sets.numbers_in_first.Given as goal

abbrev pub invariant-loop-first : goal.invariant-loop-first
invariant-loop-first l = Passes first_alone l.numbers.items l.left l.right (first_alone (ids l.fn.a) (ids l.fn.b))

abbrev pub decreases-loop-first : goal.decreases-loop-first
decreases-loop-first l = length l.left + length l.right
