use Rattle.std.proofs.Common.{◌≡◌, ◌≤◌, length, take}
use Rattle.std.specs.Prelude.{IsTrue}
use Rattle.std.specs.FinMap.{keys}
use Rattle.xod_recover.specs.Opened.{last_used, greatest_used}
use Rattle.xod_recover.specs.Reads.{OnlyReads}
use Rattle.xod_recover.proofs.used.find_used.Given as goal

abbrev pub invariant-loop-left : goal.invariant-loop-left
invariant-loop-left g l =
    let V = g.V.Volume in
    record {
      within : l.left ≤ length l.numbers;
      reads : OnlyReads V.tells V.files V.moment V.may_leave V.leases V.refs V.faults l.initial.volume l.volume;
      unfailed : V.faults l.volume ≡ V.faults l.initial.volume;
      rest : IsTrue (V.tells l.initial.volume) → last_used (V.files l.initial.volume) (take l.left (keys (V.files l.initial.volume))) ≡ greatest_used (V.files l.initial.volume);
    }

abbrev pub decreases-loop-left : goal.decreases-loop-left
decreases-loop-left g l = l.left
