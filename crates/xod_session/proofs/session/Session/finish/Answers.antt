use mathlib.Core.Path.{transport}
use Rattle.std.proofs.Common.{◌∙◌, ◌∷◌, [], ap, sym, append-nil}
use Rattle.std.proofs.lemmas.Bool.{false≢true}
use Rattle.xod_base.specs.declared.causes.Cause.TheVariants as cause
use Rattle.xod_journal.specs.declared.journal.Origin.TheVariants.{Left}
use Rattle.xod_journal.specs.declared.journal.Step.TheVariants as step
use Rattle.xod_session.specs.Seats.{IsSaid, PlaysAs, view_of}
use Rattle.xod_session.proofs.PlaysLemmas.{front-stoppable, said-all}
use Rattle.xod_session.proofs.session.Session.finish.Goals as goal
use Rattle.xod_session.proofs.session.Session.finish.Goals.{in-Some, in_default}

pub stop-requires : goal.stop-requires
stop-requires g c =
    front-stoppable g.O.Local.tells g.O.Local.txn g.O.Local.faults (g.S.Space.view c.args.space.now) (view_of c.args.self) c.requires c.in-Some.ensures.line.going c.in-Some.line Left c.in-Some.ensures.line.first

pub returns-clause-said : goal.returns-clause-said
returns-clause-said g c told =
    elim c.match-left.branch [
      | in-Some w ↦
          transport (λ i. IsSaid (g.S.Space.view c.match-left.space).start (g.S.Space.view c.match-left.space).journal ((ap (λ s. s.actor) w.session-is ∙ w.stop.ensures.halts.same.actor) i) ((ap (λ s. s.course.script) w.session-is ∙ w.stop.ensures.halts.same.script) i) (sym c.into_text.ensures i))
          (said-all g.O.Local.tells g.O.Local.txn g.O.Local.faults (g.S.Space.view c.match-left.space) (view_of c.match-left.session)
          (transport (λ i. PlaysAs g.O.Local.tells g.O.Local.txn g.O.Local.faults (g.S.Space.view (sym w.space-is i)) (view_of (sym w.session-is i))) w.stop.ensures.plays)
          (ap (λ s. s.course.is_open) w.session-is ∙ w.stop.ensures.plays.course.over w.stop.ensures.halts.stopped) told)
      | in_default w ↦
          transport (λ i. IsSaid (g.S.Space.view c.match-left.space).start (g.S.Space.view c.match-left.space).journal ((w.session-is i).actor) ((w.session-is i).course.script) (sym c.into_text.ensures i))
          (said-all g.O.Local.tells g.O.Local.txn g.O.Local.faults (g.S.Space.view c.match-left.space) (view_of c.match-left.session)
          (transport (λ i. PlaysAs g.O.Local.tells g.O.Local.txn g.O.Local.faults (g.S.Space.view (sym w.space-is i)) (view_of (sym w.session-is i))) c.requires)
          (ap (λ s. s.course.is_open) w.session-is ∙ c.left.ensures.none w.in_default.is) told)
    ]

pub returns-clause-finishes : goal.returns-clause-finishes
returns-clause-finishes g c =
    elim c.match-left.branch [
      | in-Some w ↦ record {
        closed = λ closed. absurd (false≢true (sym closed ∙ w.in-Some.ensures.line.open_is));
        given = λ is_open. record { line = w.in-Some.line; reason = cause.Memory; entry = ap (λ s. (g.S.Space.view s).journal) w.space-is ∙ w.stop.ensures.halts.entry };
        grows = record { steps = step.Stop w.in-Some.line cause.Memory Left ∷ []; grown = ap (λ s. (g.S.Space.view s).journal) w.space-is ∙ w.stop.ensures.halts.entry };
      }
      | in_default w ↦ record {
        closed = λ closed. ap (λ s. g.S.Space.view s) w.space-is;
        given = λ is_open. absurd (false≢true (sym (c.left.ensures.none w.in_default.is) ∙ is_open));
        grows = record { steps = []; grown = ap (λ s. (g.S.Space.view s).journal) w.space-is ∙ sym (append-nil _) };
      }
    ]
