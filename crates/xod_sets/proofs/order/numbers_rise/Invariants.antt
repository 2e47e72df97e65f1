use Rattle.std.proofs.Common.{◌≡◌, ◌∷◌, drop}
use Rattle.xod_sets.specs.Rising.{rises}
use Rattle.xod_sets.proofs.Passes.{ids}
use Rattle.xod_sets.proofs.order.numbers_rise.Given as goal

abbrev pub invariant-loop-number : goal.invariant-loop-number
invariant-loop-number l = rises (ids l.fn.numbers) ≡ rises (ids (l.last ∷ drop l.number-index l.rest))
