use mathlib.Core.Path.{transport}
use Rattle.std.proofs.Common.{◌≡◌, ◌∙◌, Some, refl, ap, subst, sym, arith, drop}
use Rattle.std.specs.Prelude.{is_some}
use Rattle.xod_session.specs.Answers.{AnswersRow, count_until}
use Rattle.xod_session.specs.Courses.{CourseView, IsReady, since_place, skipped}
use Rattle.xod_session.specs.Seats.{PlaysAs, view_of}
use Rattle.xod_session.specs.Sessions.{private_count}
use Rattle.xod_session.proofs.CourseLemmas.{closed-ready}
use Rattle.xod_session.proofs.OptionLemmas.{none_there}
use Rattle.xod_session.proofs.PlaysLemmas.{prepared, reaches, rests, until-within}
use Rattle.xod_session.proofs.session.Session.prepare.Given as given
use Rattle.xod_session.proofs.session.Session.prepare.Goals as goal

pub returns-in_default-clause-prepares : goal.returns-in_default-clause-prepares
returns-in_default-clause-prepares g c =
    let course = c.args.self.now.course in
    let ready : IsReady course = closed-ready course c.is_stopped.ensures.course (sym c.is_stopped.ensures.stopped ∙ c.if-is_stopped.false) (sym c.args.self.now.held ∙ ap is_some c.in_default.is) in
    record { same = record { actor = refl; script = refl }; since = refl; stopped = refl; course = λ going free. rests course ready c.args.until; prepared = λ is going free. ready }

pub skip-requires-clause-private : goal.skip-requires-clause-private
skip-requires-clause-private g c = omega (arith, c.answer_row-row.ensures.within, until-within c.args.until c.rest.result.now, ap private_count c.rest.ensures.rest)

-- the row over the statements to come
row : (g : given.Over) (c : goal.After-self-3-1 g) → AnswersRow g.O.Local.tells g.O.Local.txn g.O.Local.faults c.args.self.now.course.place.rest c.args.until c.args.self.now.said c.answer_row-row.new.said c.in-Some.txn c.answer_row-row.new.txn c.answer_row-row.result
row g c = subst (λ l. AnswersRow g.O.Local.tells g.O.Local.txn g.O.Local.faults l c.args.until c.args.self.now.said c.answer_row-row.new.said c.in-Some.txn c.answer_row-row.new.txn c.answer_row-row.result) c.rest.ensures.rest c.answer_row-row.ensures

pub returns-clause-plays : goal.returns-clause-plays
returns-clause-plays g c space plays =
    transport (λ i. PlaysAs g.O.Local.tells g.O.Local.txn g.O.Local.faults space (record (view_of c.args.self.now) {
      course = sym c.skip.ensures i;
      printed = Rattle.xod_session.specs.Dialogues.printed_of c.answer_row-row.new.said;
      txn = Some c.answer_row-row.new.txn;
      met = c.answer_row-row.result.met;
    }))
    (prepared g.O.Local.tells g.O.Local.txn g.O.Local.faults space (view_of c.args.self.now) plays (sym c.is_stopped.ensures.stopped ∙ c.if-is_stopped.false) c.in-Some.txn c.answer_row-row.new.txn
    c.args.self.now.said c.answer_row-row.new.said c.args.until c.answer_row-row.result c.in-Some.is (none_there c.args.self.now.met (sym c.is_some.ensures ∙ c.if-is_some.false)) refl (row g c))

pub returns-clause-prepares : goal.returns-clause-prepares
returns-clause-prepares g c =
    let course = c.args.self.now.course in
    let rest = course.place.rest in
    let r = row g c in
    record {
      same = record { actor = refl; script = ap (λ (v : CourseView). v.script) c.skip.ensures };
      since = ap since_place c.skip.ensures;
      stopped = ap (λ (v : CourseView). v.place.stopped) c.skip.ensures;
      course = λ going free. c.skip.ensures ∙ ap (skipped course) (reaches c.args.until rest _ _ c.answer_row-row.result r.within r.halted free).0;
      prepared = λ is going free. ap (λ (v : CourseView). private_count v.place.rest) c.skip.ensures
          ∙ subst (λ u. count_until u (drop c.answer_row-row.result.count rest) ≡ 0) is (reaches c.args.until rest _ _ c.answer_row-row.result r.within r.halted free).1;
    }
