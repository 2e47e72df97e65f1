use Rattle.xod_estxn.proofs.txn.EntityTxn.show.Given as goal

-- the trees are those of the transaction's view
abbrev pub ghosts-show_over : goal.ghosts-show_over
ghosts-show_over g a = record { trees = g.T.TreeView.trees a.view.now }
