use Rattle.xod_estxn.proofs.txn.EntityTxn.write.Given as goal

-- the trees are those of the transaction's view
abbrev pub ghosts-expand_over : goal.ghosts-expand_over
ghosts-expand_over g a = record { trees = g.T.TreeView.trees a.view.now }
