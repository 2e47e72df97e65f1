use Rattle.xod_base.specs.Rows.{RowsValue}
use Rattle.xod_reader.specs.Naming.{named_value}
use Rattle.xod_reader.proofs.Named.{Named}
use Rattle.xod_reader.proofs.naming.name_values.Given as goal

abbrev pub invariant-loop-number : goal.invariant-loop-number
invariant-loop-number g l = record {
  can_next : (goal.iterator-loop-number g).can_next l.number-iterator;
  is_finite : (goal.iterator-loop-number g).is_finite l.number-iterator;
  named : Named g.T.TreeView.tells g.T.TreeView.trees g.T.TreeView.commit g.T.TreeView.refs g.T.TreeView.faults (λ (rows : RowsValue). rows.props) named_value
      l.initial.view l.view l.yielded l.named;
}
