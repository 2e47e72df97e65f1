use Rattle.std.proofs.Common.{rules, not}
use Rattle.std.proofs.lemmas.List.Sorted.{IsPartitionPoint-from_clause}
use Rattle.xod_overlay.specs.Places.{passes}
use Rattle.xod_overlay.proofs.Placed.{partitioned, passes_up, place_is}
use Rattle.xod_overlay.proofs.piece.place_of.Goals as goal

pub returns-clause-place : goal.returns-clause-place
returns-clause-place c =
    let test = passes c.args.strict c.args.key.now in
    place_is test c.args.touches.now _ c.partition_point.ensures.bound
    (IsPartitionPoint-from_clause (λ touch. not (test touch.0)) c.args.touches.now _ c.partition_point.ensures.partitioned
    (partitioned test (passes_up c.args.strict c.args.key.now) c.args.touches.now c.requires) (λ a r f called. search rules))
