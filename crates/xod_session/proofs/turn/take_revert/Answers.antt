use Rattle.xod_session.proofs.TakenLemmas.{reverted-takes}
use Rattle.xod_session.proofs.turn.take_revert.Goals as goal

pub returns-in-Ok-clause-taken : goal.returns-in-Ok-clause-taken
returns-in-Ok-clause-taken g c =
    reverted-takes g.O.Local.tells g.O.Local.txn g.O.Local.faults (g.S.Space.view c.args.space.now) (g.S.Space.view c.revert.new.self) c.args.actor c.in-Ok.ensures.keeps (g.met.S.Space.lawful c.revert.new.self)
    c.args.txn c.revert.new.txn c.in-Ok.commit c.requires.seat c.in-Ok.ensures.reverts
