use Rattle.std.proofs.Common.{◌≡◌, ◌*◌, ◌^◌, ◌≤◌, take}
use Rattle.xod_play.specs.Told.{misses_in}
use Rattle.xod_play.proofs.gathered.misses_of.Given as goal

abbrev pub invariant-loop-player : goal.invariant-loop-player
invariant-loop-player g l = (l.misses ≡ misses_in (take l.player-index l.players)) × (l.misses ≤ l.player-index * 2 ^ 64)
