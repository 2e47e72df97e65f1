use Rattle.std.proofs.Common.{◌≡◌, ◌≤◌, ◌<◌, ◌+◌, ◌*◌, ◌-◌, length}
use Rattle.xod_recover.specs.Opened.{open_count, opened_from}
use Rattle.xod_recover.proofs.ends.open_count.Given as goal

abbrev pub invariant-loop-mark : goal.invariant-loop-mark
invariant-loop-mark l = record {
  count : l.mark + opened_from l.ends l.mark (length l.ends - l.mark) ≡ open_count l.ends;
  followed : 0 < l.mark → 13 * (l.mark + 1) ≤ length l.ends;
}

abbrev pub decreases-loop-mark : goal.decreases-loop-mark
decreases-loop-mark l = length l.ends - l.mark
