use Rattle.std.proofs.Common.{◌∙◌}
use Rattle.xod_trial.proofs.Begun.{begun, not-broken}
use Rattle.xod_trial.proofs.txn.snapshot_of.Goals as goal

pub returns-in-Ok-clause-may_begin : goal.returns-in-Ok-clause-may_begin
returns-in-Ok-clause-may_begin g c =
    let before = c.args.env.now in
    let pinned = c.in_ok-snapshot.ensures in
    begun c.over.result.names c.rows_are_read_exactly.ensures pinned.tells_alike c.types_of.ensures.keeps.tells_same c.types_of.ensures.keeps.trees_same
    pinned.trees (λ told. (before.opened (not-broken _ _ before.is_broken pinned.refusals.broken_exactly.1) told).tables)
    (λ told rows are. c.over.ensures ∙ c.in-Ok.ensures.of_rows told rows are)
