use Rattle.std.proofs.Common.{◌≡◌, true, vec_len}
use Rattle.xod_play.specs.Rounds.{are_closed}
use Rattle.xod_play.proofs.finish.let_all_go.Given as goal

abbrev pub invariant-loop-player : goal.invariant-loop-player
invariant-loop-player g l = are_closed l.players.items ≡ true

abbrev pub decreases-loop-player : goal.decreases-loop-player
decreases-loop-player g l = vec_len l.players
