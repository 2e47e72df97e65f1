use Rattle.std.proofs.Common.{◌≡◌, ◌*◌, ◌^◌, ◌≤◌, take}
use Rattle.xod_play.specs.Told.{hits_in}
use Rattle.xod_play.proofs.gathered.hits_of.Given as goal

abbrev pub invariant-loop-player : goal.invariant-loop-player
invariant-loop-player g l = (l.hits ≡ hits_in (take l.player-index l.players)) × (l.hits ≤ l.player-index * 2 ^ 64)
