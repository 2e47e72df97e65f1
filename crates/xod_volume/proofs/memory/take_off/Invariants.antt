use Rattle.std.proofs.Common.{◌≡◌, ◌++◌, take, drop}
use Rattle.xod_volume.specs.Leases.{without}
use Rattle.xod_volume.proofs.memory.take_off.Given as goal

abbrev pub invariant-loop-at : goal.invariant-loop-at
invariant-loop-at l =
    (l.lists.items ≡ l.fn.lists.items) × (without l.list l.lists.items ≡ take l.at l.lists.items ++ without l.list (drop l.at l.lists.items))
