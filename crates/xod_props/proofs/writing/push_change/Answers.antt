use Rattle.std.proofs.Common.{[], ◌∷◌, ◌++◌, ◌∙◌}
use Rattle.xod_tables.specs.declared.trees.TheConstants.{PROPERTIES}
use Rattle.xod_props.proofs.Lists.{three_behind}
use Rattle.xod_props.proofs.writing.push_change.Goals as goal

pub returns : goal.returns
returns c = three_behind _ _ _ _
    (c.in_ok-push.ensures ∙ λ i. c.args.writes.now ++ record { tree = PROPERTIES; key = c.in_ok-key.ensures i; value = c.in_ok-value.ensures i } ∷ [])
    c.in_ok-push_removals.ensures c.in_ok-push_entries.ensures
