use Rattle.std.proofs.Common.{vec_len}
use Rattle.xod_play.proofs.FinishLemmas.{IsEnding}
use Rattle.xod_play.proofs.finish.finish_all.Given as goal

abbrev pub invariant-loop-player : goal.invariant-loop-player
invariant-loop-player g l = IsEnding g.O.Local.tells g.O.Local.txn g.O.Local.faults (g.S.Space.view l.fn.space) (g.S.Space.view l.space) l.fn.players.items l.players.items

abbrev pub decreases-loop-player : goal.decreases-loop-player
decreases-loop-player g l = vec_len l.players
