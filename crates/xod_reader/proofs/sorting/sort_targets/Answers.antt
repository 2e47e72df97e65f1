use Rattle.std.proofs.Common.{rules, subst, sym}
use Rattle.std.specs.List.Sorted.{IsSorted}
use Rattle.std.specs.Ordering.{is_lt}
use Rattle.std.proofs.lemmas.Fn.{always_returns_same}
use Rattle.std.proofs.lemmas.List.Sorted.{ranks_by}
use Rattle.xod_reader.specs.Orders.{by_name_and_end}
use Rattle.xod_reader.proofs.Orders.{by_name_and_end_total}
use Rattle.xod_reader.proofs.sorting.sort_targets.Goals as goal

pub returns-clause-sorted : goal.returns-clause-sorted
returns-clause-sorted c = subst (IsSorted by_name_and_end) (sym c.from_vec.ensures)
    (c.sort_unstable_by.ensures.sorted (λ a b. is_lt (by_name_and_end a b)) (ranks_by by_name_and_end_total (λ r. r)) (always_returns_same _ _ _ (λ a r f k. search rules)))
