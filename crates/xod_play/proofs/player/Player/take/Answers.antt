use Rattle.xod_play.proofs.PlayerLemmas.{took-passed}
use Rattle.xod_play.proofs.player.Player.take.Goals as goal

pub returns-then-self-clause-turns : goal.returns-then-self-clause-turns
returns-then-self-clause-turns g c = took-passed g.O.Local.tells g.O.Local.txn g.O.Local.faults (g.S.Space.view c.args.space.now) c.args.self.now c.args.wanted c.requires c.if-self.true
