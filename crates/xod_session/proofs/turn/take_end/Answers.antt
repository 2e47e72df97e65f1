use Rattle.xod_session.proofs.TakenLemmas.{ended-takes}
use Rattle.xod_session.proofs.turn.take_end.Goals as goal

pub returns-in-Ok-clause-taken : goal.returns-in-Ok-clause-taken
returns-in-Ok-clause-taken g c =
    ended-takes g.O.Local.tells g.O.Local.txn g.O.Local.faults (g.S.Space.view c.args.space.now) (g.S.Space.view c.end.new.self) c.args.actor c.in-Ok.ensures.keeps (g.met.S.Space.lawful c.end.new.self) c.args.txn c.requires.seat c.in-Ok.ensures.entry
