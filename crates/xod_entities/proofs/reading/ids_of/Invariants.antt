use Rattle.xod_base.specs.Views.{Entry}
use Rattle.xod_tables.specs.Keys.{entity_key}
use Rattle.xod_tables.specs.declared.trees.TheConstants.{ENTITIES}
use Rattle.xod_keys.specs.Pieces.{id_read}
use Rattle.xod_keys.specs.Readings.{LAST}
use Rattle.xod_keys.proofs.CallerLemmas.{Walked}
use Rattle.xod_entities.proofs.reading.ids_of.Given as goal

abbrev pub invariant-walk : goal.invariant-walk
invariant-walk g l =
    Walked g.T.TreeView.tells g.T.TreeView.trees g.T.TreeView.commit g.T.TreeView.refs g.T.TreeView.faults ENTITIES (λ (entry : Entry). id_read entry.0)
    (entity_key (record { kind = l.kind; local = 0 })) (entity_key (record { kind = l.kind; local = LAST })) l.initial.view l.view l.range l.ids

abbrev pub decreases-walk : goal.decreases-walk
decreases-walk g l = l.range.left
