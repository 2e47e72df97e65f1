use Rattle.xod_base.specs.Views.{KeepsView}
use Rattle.xod_trial.proofs.txn.make_acts.Given as goal

abbrev pub invariant-loop-given : goal.invariant-loop-given
invariant-loop-given g l =
    KeepsView g.T.TreeView.tells g.T.TreeView.trees g.T.TreeView.commit g.T.TreeView.refs g.T.TreeView.faults l.fn.txn.view l.txn.view
