use Rattle.std.proofs.Common.{◌≡◌, ◌++◌, take, drop}
use Rattle.xod_volume.specs.Leases.{without}
use Rattle.xod_volume_fs.proofs.lent.take_off.Given as goal

-- Nothing is taken off yet, and the lists before this place are others.
abbrev pub invariant-loop-at : goal.invariant-loop-at
invariant-loop-at l =
    (l.lists.items ≡ l.fn.lists.items) × (without l.list l.lists.items ≡ take l.at l.lists.items ++ without l.list (drop l.at l.lists.items))
