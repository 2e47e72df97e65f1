use Rattle.std.proofs.Common.{◌≡◌, Some, drop, map}
use Rattle.std.specs.List.{filter}
use Rattle.xod_base.specs.Evaluation.{has_link}
use Rattle.xod_base.specs.Ids.{id_of_number}
use Rattle.xod_base.specs.Rows.{number_of}
use Rattle.xod_iter.proofs.Going.{Going}
use Rattle.xod_iter.proofs.links.those_with_link.Given as goal

abbrev pub invariant-loop-number : goal.invariant-loop-number
invariant-loop-number g l =
    Going g.T.TreeView.tells g.T.TreeView.trees g.T.TreeView.commit g.T.TreeView.refs g.T.TreeView.faults (λ name rows. number_of rows.links name ≡ Some l.link)
    (λ name rows. filter (has_link rows name)) l.initial.view l.view l.ids (map id_of_number (drop l.number-index l.number-items)) l.found
