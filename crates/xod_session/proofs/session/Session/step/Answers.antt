use Rattle.std.proofs.Common.{◌∙◌, refl, sym}
use Rattle.xod_session.specs.Seats.{view_of}
use Rattle.xod_session.proofs.CallLemmas.{finishes}
use Rattle.xod_session.proofs.PlaysLemmas.{met-stoppable}
use Rattle.xod_session.proofs.session.Session.step.Goals as goal

pub returns-in_default-clause-came : goal.returns-in_default-clause-came
returns-in_default-clause-came g c = record {
  comes = finishes c.args.self.now (sym c.is_stopped.ensures.stopped ∙ c.if-is_stopped.false) (sym c.next.ensures ∙ c.in_default.is);
  space = refl;
  same = refl;
}

pub stop-requires : goal.stop-requires
stop-requires g c =
    met-stoppable g.O.Local.tells g.O.Local.txn g.O.Local.faults (g.S.Space.view c.args.space.now) (view_of c.args.self.now) c.requires.plays (sym c.is_stopped.ensures.stopped ∙ c.if-is_stopped.false) (g.met.S.Space.lawful c.args.space.now) c.in-Some-met.halt c.in-Some-met.is
