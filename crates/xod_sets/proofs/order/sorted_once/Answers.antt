use Rattle.std.proofs.lemmas.List.Filters.{dedup_is}
use Rattle.xod_sets.proofs.Sorting.{sorted_once}
use Rattle.xod_sets.proofs.order.sorted_once.Goals as goal

pub returns : goal.returns
returns c = sorted_once c.args.numbers.items c.sort_unstable.new.self.items c.dedup.new.self.items
    c.sort_unstable.ensures.permutation c.sort_unstable.ensures.sorted (dedup_is _ _ _ c.dedup.ensures.filtered)
