use Rattle.std.proofs.Common.{◌≡◌, ◌≤◌, ◌+◌, drop}
use Rattle.xod_env.specs.Counts.{pairs_among, pairs_from}
use Rattle.xod_env.proofs.count.pairs_among.Given as goal

abbrev pub invariant-loop-number : goal.invariant-loop-number
invariant-loop-number l =
    (l.count + pairs_from l.wanted (drop l.number-index l.numbers) ≡ pairs_among l.numbers) ×
    (l.count ≤ l.number-index)
