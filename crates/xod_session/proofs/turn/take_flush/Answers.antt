use Rattle.std.proofs.Common.{Some, subst, sym}
use Rattle.xod_base.specs.declared.answer.FlushAnswer.{FlushAnswer}
use Rattle.xod_base.specs.declared.causes.Cause.{Cause}
use Rattle.xod_base.specs.declared.answer.Reply.TheVariants.{Flushed}
use Rattle.std.specs.Prelude.{Option}
use Rattle.xod_session.specs.declared.course.SharedStep.TheVariants.{Flush}
use Rattle.xod_session.specs.Steps.{Takes}
use Rattle.xod_session.proofs.TakenLemmas.{flushed-takes}
use Rattle.xod_session.proofs.turn.take_flush.Goals as goal

pub returns-in-Ok-clause-taken : goal.returns-in-Ok-clause-taken
returns-in-Ok-clause-taken g c =
    let old = g.S.Space.view c.args.space.now in
    let new = g.S.Space.view c.flush.new.self in
    subst (λ (p : FlushAnswer × Option Cause). Takes g.O.Local.tells g.O.Local.txn g.O.Local.faults old new c.args.actor Flush (Some c.args.txn) (Flushed p.0) p.1 (Some c.flush.new.txn)) (sym c.parts-answer.ensures)
    (flushed-takes g.O.Local.tells g.O.Local.txn g.O.Local.faults old new c.args.actor c.in-Ok.ensures.keeps (g.met.S.Space.lawful c.flush.new.self) c.same_is_equal.ensures (g.met.S.Space.lawful c.args.space.now) g.O.Local.refs
    c.args.txn c.flush.new.txn c.requires.seat c.in-Ok.answer c.in-Ok.ensures.flushes c.in-Ok.ensures.flushed)
