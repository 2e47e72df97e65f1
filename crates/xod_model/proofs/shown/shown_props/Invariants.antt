use Rattle.std.proofs.Common.{◌≡◌, ◌++◌, map, drop}
use Rattle.std.specs.List.{filter}
use Rattle.xod_base.specs.Rows.{same_id}
use Rattle.xod_model.specs.Entries.{prop_entry}
use Rattle.xod_model.proofs.shown.shown_props.Given as goal

abbrev pub invariant-loop-prop : goal.invariant-loop-prop
invariant-loop-prop l =
    l.shown ++ map (λ cell. (cell.0.1, cell.1)) (filter (λ cell. same_id cell.0.0 l.id) (map prop_entry (drop l.prop-index l.props)))
    ≡ map (λ cell. (cell.0.1, cell.1)) (filter (λ cell. same_id cell.0.0 l.id) (map prop_entry l.props))
