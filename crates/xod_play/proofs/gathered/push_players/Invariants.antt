use Rattle.std.proofs.Common.{◌≡◌, ◌++◌, take}
use Rattle.std.specs.List.{flat_map}
use Rattle.xod_play.specs.Told.{told_text}
use Rattle.xod_play.proofs.gathered.push_players.Given as goal

abbrev pub invariant-loop-player : goal.invariant-loop-player
invariant-loop-player g l = l.out ≡ l.initial.out ++ flat_map told_text (take l.player-index l.players)
