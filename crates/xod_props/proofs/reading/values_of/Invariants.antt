use Rattle.xod_tables.specs.Keys.{property_key}
use Rattle.xod_tables.specs.declared.trees.TheConstants.{PROPERTIES}
use Rattle.xod_keys.specs.Readings.{LAST, numbered_read}
use Rattle.xod_keys.proofs.CallerLemmas.{Walked}
use Rattle.xod_props.proofs.reading.values_of.Given as goal

abbrev pub invariant-walk : goal.invariant-walk
invariant-walk g l =
    Walked g.T.TreeView.tells g.T.TreeView.trees g.T.TreeView.commit g.T.TreeView.refs g.T.TreeView.faults PROPERTIES numbered_read
    (property_key l.fn.id 0) (property_key l.fn.id LAST) l.initial.view l.view l.range l.values

abbrev pub decreases-walk : goal.decreases-walk
decreases-walk g l = l.range.left
