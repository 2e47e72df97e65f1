use Rattle.std.proofs.Common.{◌≡◌, ◌++◌, drop}
use Rattle.std.specs.Prelude.{◌==◌}
use Rattle.std.specs.List.{filter}
use Rattle.std.specs.FinMap.{keys}
use Rattle.xod_model.specs.Entries.{rows_of}
use Rattle.xod_model.proofs.lists.Lists.ids_of.Given as goal

abbrev pub invariant-loop-id : goal.invariant-loop-id
invariant-loop-id l = l.ids ++ filter (λ id. id.kind == l.number) (drop l.id-index l.id-items) ≡ filter (λ id. id.kind == l.number) (keys (rows_of l.self).ids)
