use Rattle.xod_session.proofs.TakenLemmas.{begun-takes}
use Rattle.xod_session.proofs.turn.take_begin.Goals as goal

pub returns-in-Ok-clause-taken : goal.returns-in-Ok-clause-taken
returns-in-Ok-clause-taken g c =
    let old = g.S.Space.view c.args.space.now in
    let new = g.S.Space.view c.begin.new.self in
    begun-takes g.O.Local.tells g.O.Local.txn g.O.Local.faults old new c.args.actor c.in-Ok.ensures.keeps (g.met.S.Space.lawful c.begin.new.self) c.args.mode c.in-Ok.commit c.in-Ok.txn c.requires.seat c.in-Ok.ensures.begins
