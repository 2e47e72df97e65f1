use Rattle.std.proofs.Common.{◌≡◌, ◌+◌, drop}
use Rattle.xod_root.specs.Places.{place_below}
use Rattle.xod_root.proofs.roots.place_of.Given as goal

abbrev pub invariant-loop-index : goal.invariant-loop-index
invariant-loop-index l = place_below l.number l.links ≡ l.index + place_below l.number (drop l.index l.links)
