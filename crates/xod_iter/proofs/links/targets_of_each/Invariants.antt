use Rattle.std.proofs.Common.{◌≡◌, Some, drop, map}
use Rattle.std.specs.List.{flat_map}
use Rattle.xod_base.specs.Evaluation.{targets_of}
use Rattle.xod_base.specs.Ids.{id_of_number}
use Rattle.xod_base.specs.Rows.{number_of}
use Rattle.xod_iter.proofs.Going.{Going}
use Rattle.xod_iter.proofs.links.targets_of_each.Given as goal

abbrev pub invariant-loop-number : goal.invariant-loop-number
invariant-loop-number g l =
    Going g.T.TreeView.tells g.T.TreeView.trees g.T.TreeView.commit g.T.TreeView.refs g.T.TreeView.faults (λ name rows. number_of rows.links name ≡ Some l.link)
    (λ name rows. flat_map (targets_of rows name)) l.initial.view l.view l.ids (map id_of_number (drop l.number-index l.number-items)) l.found
