use Rattle.std.proofs.Common.{◌≡◌, ◌++◌, map, drop}
use Rattle.std.specs.List.{flat_map}
use Rattle.xod_base.specs.Evaluation.{targets_of}
use Rattle.xod_base.specs.Ids.{id_of_number}
use Rattle.xod_model.specs.Entries.{rows_of}
use Rattle.xod_model.proofs.lists.Lists.targets.Given as goal

abbrev pub invariant-loop-number : goal.invariant-loop-number
invariant-loop-number l =
    l.found ++ flat_map (targets_of (rows_of l.self) l.link) (map id_of_number (drop l.number-index l.number-items)) ≡ flat_map (targets_of (rows_of l.self) l.link) l.ids
