use Rattle.std.proofs.Common.{◌≡◌, take}
use Rattle.xod_play.specs.Told.{names_in}
use Rattle.xod_play.proofs.gathered.names_of.Given as goal

abbrev pub invariant-loop-player : goal.invariant-loop-player
invariant-loop-player g l = l.names.items ≡ names_in (take l.player-index l.players)
