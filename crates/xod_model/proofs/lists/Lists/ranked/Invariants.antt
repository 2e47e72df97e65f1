use Rattle.std.proofs.Common.{◌≡◌, ◌++◌, map, drop}
use Rattle.xod_base.specs.Ids.{id_of_number}
use Rattle.xod_forms.specs.Ranks.{rank_of}
use Rattle.xod_model.specs.Entries.{rows_of}
use Rattle.xod_model.proofs.lists.Lists.ranked.Given as goal

abbrev pub invariant-loop-number : goal.invariant-loop-number
invariant-loop-number l =
    l.ranked.items ++ map (rank_of (rows_of l.self) l.prop) (map id_of_number (drop l.number-index l.number-items)) ≡ map (rank_of (rows_of l.self) l.prop) l.ids
