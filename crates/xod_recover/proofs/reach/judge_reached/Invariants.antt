use Rattle.xod_recover.proofs.reach.judge_reached.Given as goal

-- the lease has what it had before
abbrev pub ghosts-judge_lease : goal.ghosts-judge_lease
ghosts-judge_lease g a = record { list = g.V.Held.Lease.list a.snapshot.lease; lent = g.V.Held.Lease.lent a.snapshot.lease }
