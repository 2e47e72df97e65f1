use Rattle.std.proofs.Common.{◌≡◌, ◌<◌, ◌≤◌, ◌-◌}
use Rattle.xod_pages.specs.Lent.{KeepsLease}
use Rattle.xod_pages.specs.declared.shown.TheConstants.{LONGEST_RECORD}
use Rattle.xod_pages.proofs.reading.read_record.Given as goal

-- The reads so far answered without a fault, and the next piece is no longer than the longest record.
abbrev pub invariant-longer : goal.invariant-longer
invariant-longer g l = record {
  some : 0 < l.size;
  within : l.size ≤ LONGEST_RECORD;
  keeps : KeepsLease g.L.Lease.tells g.L.Lease.list g.L.Lease.lent g.L.Lease.refs g.L.Lease.faults l.initial.lease l.lease;
  no_fault : g.L.Lease.faults l.lease ≡ g.L.Lease.faults l.initial.lease;
  out_same : l.out ≡ l.initial.out;
}

-- each piece is longer than the one before
abbrev pub decreases-longer : goal.decreases-longer
decreases-longer g l = LONGEST_RECORD - l.size
