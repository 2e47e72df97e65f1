use Rattle.std.proofs.Common.{◌≡◌, take}
use Rattle.std.specs.List.{filter}
use Rattle.xod_recover.specs.Listings.{is_body}
use Rattle.xod_recover.proofs.reach.bodies_among.Given as goal

abbrev pub invariant-loop-number : goal.invariant-loop-number
invariant-loop-number l = l.bodies.items ≡ filter is_body (take l.number-index l.numbers)
