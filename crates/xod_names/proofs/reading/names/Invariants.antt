use Rattle.xod_base.specs.Views.{Entry}
use Rattle.xod_tables.specs.Keys.{name_key}
use Rattle.xod_tables.specs.declared.trees.TheConstants.{NAMES}
use Rattle.xod_keys.specs.Pieces.{name_read}
use Rattle.xod_keys.specs.Readings.{LAST}
use Rattle.xod_keys.proofs.CallerLemmas.{Walked}
use Rattle.xod_names.proofs.reading.names.Given as goal

abbrev pub invariant-walk : goal.invariant-walk
invariant-walk g l =
    Walked g.T.TreeView.tells g.T.TreeView.trees g.T.TreeView.commit g.T.TreeView.refs g.T.TreeView.faults NAMES (λ (entry : Entry). name_read entry.1)
    (name_key l.fn.list 0) (name_key l.fn.list LAST) l.initial.view l.view l.range l.names

abbrev pub decreases-walk : goal.decreases-walk
decreases-walk g l = l.range.left
