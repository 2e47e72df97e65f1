use Rattle.std.proofs.Common.{◌≡◌, ◌++◌, map, drop}
use Rattle.std.specs.Prelude.{not}
use Rattle.std.specs.List.{filter}
use Rattle.xod_base.specs.Ids.{id_of_number}
use Rattle.xod_base.specs.Rows.{same_id}
use Rattle.xod_acts.proofs.links.others.Given as goal

abbrev pub invariant-loop-number : goal.invariant-loop-number
invariant-loop-number l =
    l.others ++ filter (λ other. not (same_id other l.target)) (map id_of_number (drop l.number-index l.number-items))
    ≡ filter (λ other. not (same_id other l.target)) l.ids
