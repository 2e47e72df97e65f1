use Rattle.xod_base.specs.Views.{Entry}
use Rattle.xod_tables.specs.declared.trees.TheConstants.{INDEX}
use Rattle.xod_keys.specs.Pieces.{entry_read}
use Rattle.xod_keys.proofs.CallerLemmas.{Walked}
use Rattle.xod_props.proofs.reading.ids_of_keys.Given as goal

abbrev pub invariant-walk : goal.invariant-walk
invariant-walk g l =
    Walked g.T.TreeView.tells g.T.TreeView.trees g.T.TreeView.commit g.T.TreeView.refs g.T.TreeView.faults INDEX (λ (entry : Entry). entry_read entry.0)
    l.fn.low l.fn.high l.initial.view l.view l.range l.ids

abbrev pub decreases-walk : goal.decreases-walk
decreases-walk g l = l.range.left
