use Rattle.std.proofs.Common.{◌≡◌, ◌++◌, drop, map}
use Rattle.std.specs.Prelude.{◌==◌}
use Rattle.std.specs.List.{filter}
use Rattle.xod_base.specs.Ids.{id_of_number}
use Rattle.xod_reader.proofs.links.of_kind.Given as goal

abbrev pub invariant-loop-number : goal.invariant-loop-number
invariant-loop-number l =
    l.found ++ filter (λ id. id.kind == l.kind) (map id_of_number (drop l.number-index l.number-items)) ≡ filter (λ id. id.kind == l.kind) l.ids
