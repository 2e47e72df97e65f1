use Rattle.std.proofs.Common.{ℕ, rules, sym, subst}
use Rattle.std.proofs.lemmas.List.Sorted.{IsPartitionPoint-from_clause}
use Rattle.xod_overlay.specs.Pieces.{begins_by, IsSeat}
use Rattle.xod_overlay.proofs.Pieced.{begun_parted, seat_is}
use Rattle.xod_overlay.proofs.sorted.seat_of.Goals as goal

pub returns-clause-seat : goal.returns-clause-seat
returns-clause-seat c =
    let key = c.args.key.now in
    let pieces = c.args.pieces.now in
    subst (λ (at : ℕ). IsSeat key pieces at) (sym c.saturating_sub.ensures)
    (seat_is key pieces c.partition_point-begun.result c.requires c.partition_point-begun.ensures.bound
    (IsPartitionPoint-from_clause (begins_by key) pieces c.partition_point-begun.result c.partition_point-begun.ensures.partitioned
    (begun_parted key pieces c.requires) (λ a r f called. search rules)))
