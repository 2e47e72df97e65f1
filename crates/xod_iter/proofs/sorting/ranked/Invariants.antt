use Rattle.std.proofs.Common.{◌≡◌, drop, map}
use Rattle.xod_base.specs.Ids.{id_of_number}
use Rattle.xod_base.specs.Rows.{number_of}
use Rattle.xod_forms.specs.Ranks.{rank_of}
use Rattle.xod_iter.proofs.Going.{Going}
use Rattle.xod_iter.proofs.sorting.ranked.Given as goal

abbrev pub invariant-loop-number : goal.invariant-loop-number
invariant-loop-number g l =
    Going g.T.TreeView.tells g.T.TreeView.trees g.T.TreeView.commit g.T.TreeView.refs g.T.TreeView.faults (λ name rows. number_of rows.props name ≡ l.prop)
    (λ name rows. map (rank_of rows name)) l.initial.view l.view l.ids (map id_of_number (drop l.number-index l.number-items)) l.ranked
