use Rattle.std.proofs.Common.{◌≤◌, ◌<◌, ◌-◌, take, length}
use Rattle.std.specs.List.{concat}
use Rattle.xod_volume.proofs.pieces.place_of.Given as goal

abbrev pub invariant-loop-high : goal.invariant-loop-high
invariant-loop-high l =
    (l.low < l.high)
    × (l.high ≤ length l.pieces)
    × (length (concat (take l.low l.pieces)) ≤ l.at)
    × (l.at < length (concat (take l.high l.pieces)))

abbrev pub decreases-loop-high : goal.decreases-loop-high
decreases-loop-high l = l.high - l.low
