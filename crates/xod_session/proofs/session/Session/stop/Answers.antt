use mathlib.Core.Path.{transport}
use Rattle.std.proofs.Common.{None, sym}
use Rattle.xod_session.specs.Seats.{PlaysAs, view_of}
use Rattle.xod_session.proofs.PlaysLemmas.{stopped}
use Rattle.xod_session.proofs.session.Session.stop.Goals as goal

pub returns-clause-plays : goal.returns-clause-plays
returns-clause-plays g c =
    transport (λ i. PlaysAs g.O.Local.tells g.O.Local.txn g.O.Local.faults (g.S.Space.view c.stop.new.self) (record {
      actor = c.args.self.now.actor;
      course = sym c.halt.ensures i;
      printed = sym c.put_stop.ensures.printed i;
      txn = sym c.take-txn.ensures.after i;
      met = None;
    }))
    (stopped g.O.Local.tells g.O.Local.txn g.O.Local.faults (g.S.Space.view c.args.space.now) (g.S.Space.view c.stop.new.self) c.stop.ensures.keeps (g.met.S.Space.lawful c.stop.new.self)
    (view_of c.args.self.now) c.args.line c.args.cause c.args.origin c.requires c.stop.ensures.entry)
