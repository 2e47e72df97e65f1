use Rattle.xod_snapshot.proofs.snapshot.SnapshotTreeView.get.Given as goal

-- the files are those of the snapshot's lease
abbrev pub ghosts-find_kept : goal.ghosts-find_kept
ghosts-find_kept g a = record { list = g.L.Lease.list a.lease.now; lent = g.L.Lease.lent a.lease.now }
