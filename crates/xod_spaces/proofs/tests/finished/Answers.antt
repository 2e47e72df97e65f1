use Rattle.xod_session.specs.Seats.{view_of}
use Rattle.xod_session.proofs.CallerLemmas.{beside}
use Rattle.xod_spaces.proofs.tests.finished.Goals as goal

pub finish-second-requires : goal.finish-second-requires
finish-second-requires g c =
    beside g.O.Local.tells g.O.Local.txn g.O.Local.faults (g.S.Space.view c.args.space.now) (g.S.Space.view c.finish-first.new.space) (view_of c.args.second) c.args.first.actor
    c.finish-first.ensures.keeps (g.met.S.Space.lawful c.finish-first.new.space) c.finish-first.ensures.finishes.grows c.requires.apart c.requires.other_plays
