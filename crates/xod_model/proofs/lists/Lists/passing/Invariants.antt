use Rattle.std.proofs.Common.{◌≡◌, ◌++◌, map, drop}
use Rattle.std.specs.List.{filter}
use Rattle.xod_base.specs.Ids.{id_of_number}
use Rattle.xod_model.specs.Entries.{rows_of}
use Rattle.xod_model.specs.Passing.{passes}
use Rattle.xod_model.proofs.lists.Lists.passing.Given as goal

abbrev pub invariant-loop-number : goal.invariant-loop-number
invariant-loop-number l =
    l.found ++ filter (passes (rows_of l.self) l.test) (map id_of_number (drop l.number-index l.number-items)) ≡ filter (passes (rows_of l.self) l.test) l.ids
