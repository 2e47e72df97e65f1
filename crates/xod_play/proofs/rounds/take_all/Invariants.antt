use Rattle.xod_journal.specs.Spaces.{KeepsSpace}
use Rattle.xod_play.specs.Rounds.{start_of}
use Rattle.xod_play.proofs.ReplayLemmas.{HasTaken}
use Rattle.xod_play.proofs.rounds.take_all.Given as goal

abbrev pub invariant-loop-at : goal.invariant-loop-at
invariant-loop-at g l = record {
  taken : HasTaken g.O.Local.tells g.O.Local.txn g.O.Local.faults (g.S.Space.view l.space) l.players (start_of (g.S.Space.view l.fn.space) l.fn.players) l.order l.at;
  keeps : KeepsSpace (g.S.Space.view l.fn.space) (g.S.Space.view l.space);
}
