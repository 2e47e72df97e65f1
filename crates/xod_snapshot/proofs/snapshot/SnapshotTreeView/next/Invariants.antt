use Rattle.xod_snapshot.proofs.snapshot.SnapshotTreeView.next.Given as goal

-- the files are those of the snapshot's lease
abbrev pub ghosts-walk_kept : goal.ghosts-walk_kept
ghosts-walk_kept g a = record { list = g.L.Lease.list a.lease.now; lent = g.L.Lease.lent a.lease.now }
