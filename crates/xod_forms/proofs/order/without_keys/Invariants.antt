use Rattle.std.proofs.Common.{◌≡◌, ◌++◌, map, drop}
use Rattle.xod_forms.proofs.order.without_keys.Given as goal

abbrev pub invariant-loop-rank : goal.invariant-loop-rank
invariant-loop-rank l = l.ids ++ map (λ rank. rank.id) (drop l.rank-index l.ranked) ≡ map (λ rank. rank.id) l.ranked
