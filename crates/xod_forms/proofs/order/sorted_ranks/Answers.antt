use Rattle.std.proofs.Common.{rules}
use Rattle.std.specs.Ordering.{is_lt}
use Rattle.std.proofs.lemmas.Fn.{always_returns_same}
use Rattle.std.proofs.lemmas.List.Sorted.{ranks_by}
use Rattle.xod_forms.specs.Ranks.{rank_cmp}
use Rattle.xod_forms.proofs.SortLemmas.{rank_total}
use Rattle.xod_forms.proofs.order.sorted_ranks.Goals as goal

pub returns-clause-sorted : goal.returns-clause-sorted
returns-clause-sorted c =
    c.sort_unstable_by.ensures.sorted (λ a b. is_lt (rank_cmp c.args.direction a b)) (ranks_by (rank_total c.args.direction) (λ r. r)) (always_returns_same _ _ _ (λ a r f k. search rules))
