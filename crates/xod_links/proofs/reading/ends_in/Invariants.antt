use Rattle.std.specs.Option.{option_map}
use Rattle.xod_base.specs.Views.{Entry}
use Rattle.xod_tables.specs.Keys.{link_key}
use Rattle.xod_keys.specs.Pieces.{link_read}
use Rattle.xod_keys.specs.Readings.{first_id, last_id}
use Rattle.xod_keys.proofs.CallerLemmas.{Walked}
use Rattle.xod_links.proofs.reading.ends_in.Given as goal

abbrev pub invariant-walk : goal.invariant-walk
invariant-walk g l =
    Walked g.T.TreeView.tells g.T.TreeView.trees g.T.TreeView.commit g.T.TreeView.refs g.T.TreeView.faults l.fn.tree
    (λ (entry : Entry). option_map (λ found. found.1) (link_read entry.0))
    (link_key l.fn.id l.fn.link first_id) (link_key l.fn.id l.fn.link last_id) l.initial.view l.view l.range l.ids

abbrev pub decreases-walk : goal.decreases-walk
decreases-walk g l = l.range.left
