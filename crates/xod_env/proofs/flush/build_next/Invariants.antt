use Rattle.xod_env.proofs.flush.build_next.Given as goal

-- the lease has what it had before
abbrev pub ghosts-build_kept : goal.ghosts-build_kept
ghosts-build_kept g a = record { list = g.V.Held.Lease.list a.lease.now; lent = g.V.Held.Lease.lent a.lease.now }
