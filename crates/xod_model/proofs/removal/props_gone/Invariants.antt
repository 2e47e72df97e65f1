use Rattle.std.proofs.Common.{◌≡◌, ◌++◌, map, drop, Some, None}
use Rattle.std.specs.List.{filter}
use Rattle.xod_base.specs.Rows.{same_id}
use Rattle.xod_journal.specs.declared.change.RowChange.TheVariants.{Prop}
use Rattle.xod_model.specs.Entries.{prop_entry}
use Rattle.xod_model.proofs.removal.props_gone.Given as goal

abbrev pub invariant-loop-prop : goal.invariant-loop-prop
invariant-loop-prop l =
    l.changes ++ map (λ cell. Prop l.id cell.0.1 (Some cell.1) None) (filter (λ cell. same_id cell.0.0 l.id) (map prop_entry (drop l.prop-index l.props)))
    ≡ map (λ cell. Prop l.id cell.0.1 (Some cell.1) None) (filter (λ cell. same_id cell.0.0 l.id) (map prop_entry l.props))
