use Rattle.xod_session.proofs.TakenLemmas.{synced-takes}
use Rattle.xod_session.proofs.turn.take_sync.Goals as goal

pub returns-in-Ok-clause-taken : goal.returns-in-Ok-clause-taken
returns-in-Ok-clause-taken g c =
    synced-takes g.O.Local.tells g.O.Local.txn g.O.Local.faults (g.S.Space.view c.args.space.now) (g.S.Space.view c.sync.new.self) c.args.actor c.in-Ok.ensures.keeps (g.met.S.Space.lawful c.sync.new.self)
    c.args.txn c.requires.seat c.requires.told c.in-Ok.ensures.syncs
