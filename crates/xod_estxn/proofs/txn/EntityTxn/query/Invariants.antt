use Rattle.xod_estxn.proofs.txn.EntityTxn.query.Given as goal

-- the trees are those of the transaction's view
abbrev pub ghosts-evaluate_over : goal.ghosts-evaluate_over
ghosts-evaluate_over g a = record { trees = g.T.TreeView.trees a.view.now }
