use mathlib.Core.Path.{transport}
use Rattle.std.proofs.Common.{◌≡◌, ◌∙◌, ◌∷◌, [], Some, false, refl, ap, sym, subst, append-nil, drop}
use Rattle.std.specs.Prelude.{ℕ, is_some}
use Rattle.xod_base.specs.declared.causes.Cause.TheVariants as cause
use Rattle.xod_journal.specs.declared.journal.Origin.TheVariants.{Run}
use Rattle.xod_session.specs.declared.course.SharedStep.{SharedStep}
use Rattle.xod_session.specs.Calls.{front_of}
use Rattle.xod_session.specs.Courses.{CourseView, IsCourse, StopsAt, answered_count, front_asked}
use Rattle.xod_session.specs.Dialogues.{line_printed}
use Rattle.xod_session.specs.Seats.{IsStoppable, PlaysAs, view_of}
use Rattle.xod_session.specs.Sessions.{private_count}
use Rattle.xod_session.specs.Steps.{IsHeld}
use Rattle.xod_session.proofs.CallLemmas.{comes, flush-alone, has_stopped}
use Rattle.xod_session.proofs.CourseLemmas.{front-is, front-stops}
use Rattle.xod_session.proofs.PlaysLemmas.{behind_fresh, behind_going, faulted, held, kept, open_behind, refused, stepped, stoppable}
use Rattle.xod_session.proofs.session.Session.take_step.Goals as goal

-- the next statement asks for the step
asked_there : (course : CourseView) (line : ℕ) (asked : SharedStep) → private_count course.place.rest ≡ 0 → front_of course ≡ Some (line, asked)
    → front_asked course.place.due course.place.rest ≡ Some (line, asked)
asked_there course line asked ready front = ap (λ n. front_asked course.place.due (drop n course.place.rest)) (sym ready) ∙ front

-- a stop at the next statement, and that it is the line's
front_there : (course : CourseView) (line : ℕ) (asked : SharedStep) → IsCourse course → course.place.stopped ≡ false → private_count course.place.rest ≡ 0 → front_of course ≡ Some (line, asked) → StopsAt course line
front_there course line asked is going ready front =
    let f = front-is course.place.due course.place.rest line asked (asked_there course line asked ready front) in
    subst (StopsAt course) f.3 (front-stops course is going f.0 f.1 f.2)

pub stop-requires : goal.stop-requires
stop-requires g c =
    let session = view_of c.args.self.now in
    transport (λ i. IsStoppable g.O.Local.txn g.O.Local.faults (g.S.Space.view c.args.space.now) (record session { printed = sym c.make_room.ensures.printed i }) c.args.line cause.Memory Run)
    (stoppable g.O.Local.tells g.O.Local.txn g.O.Local.faults (g.S.Space.view c.args.space.now) session c.requires.plays c.requires.going c.args.line cause.Memory Run
    (front_there session.course c.args.line c.args.asked c.requires.plays.course c.requires.going c.requires.ready c.requires.front) tt)

pub returns-then-is_err-clause-came : goal.returns-then-is_err-clause-came
returns-then-is_err-clause-came g c =
    has_stopped g.O.Local.faults (g.S.Space.view c.args.space.now) c.args.self.now c.requires.going c.requires.free c.args.line c.args.asked c.requires.front (g.S.Space.view c.args.space.now) (g.S.Space.view c.stop.new.space) c.stop.new.self [] c.args.self.now.txn c.args.self.now.txn cause.Memory
    refl c.stop.ensures.keeps (sym (append-nil _)) tt tt c.stop.ensures.halts.entry c.stop.ensures.halts.stopped

pub take-requires-2-clause-held : goal.take-requires-2-clause-held
take-requires-2-clause-held g c =
    subst (IsHeld g.O.Local.tells g.O.Local.txn (g.S.Space.view c.args.space.now) c.args.self.now.actor) (sym c.take.ensures.value)
    (held g.O.Local.tells g.O.Local.txn g.O.Local.faults (g.S.Space.view c.args.space.now) (view_of c.args.self.now) c.requires.plays c.requires.going c.requires.free c.sessions_agree.ensures c.names_stay.ensures (g.met.S.Space.lawful c.args.space.now))

-- ---- a step that was taken

pub invariant_of-self-in-Done : goal.invariant_of-self-in-Done
invariant_of-self-in-Done g c = record {
  held = ap is_some c.put.ensures ∙ open_behind g.O.Local.tells g.O.Local.txn g.O.Local.faults (g.S.Space.view c.args.space.now) (view_of c.args.self.now) c.requires.plays c.requires.going (g.S.Space.view c.take-2.new.space) c.in-Done.ensures.keeps c.requires.free c.requires.ready c.args.line c.args.asked
      (asked_there c.args.self.now.course c.args.line c.args.asked c.requires.ready c.requires.front) c.args.self.now.held c.take.result c.take.ensures.value c.in-Done.reply c.in-Done.fault c.in-Done.txn c.in-Done.ensures.taken ∙ sym (ap (λ (v : CourseView). v.is_open) c.place.ensures);
  room = λ going. c.put_step.ensures.room;
}

pub returns-in_default-clause-plays : goal.returns-in_default-clause-plays
returns-in_default-clause-plays g c =
    transport (λ i. PlaysAs g.O.Local.tells g.O.Local.txn g.O.Local.faults (g.S.Space.view c.take-2.new.space) (record {
      actor = c.args.self.now.actor;
      course = sym c.place.ensures i;
      printed = sym (c.put_step.ensures.printed ∙ ap (λ p. line_printed p c.args.line c.in-Done.reply) c.make_room.ensures.printed) i;
      txn = sym c.put.ensures i;
      met = sym c.requires.free i;
    }))
    (stepped g.O.Local.tells g.O.Local.txn g.O.Local.faults (g.S.Space.view c.args.space.now) (view_of c.args.self.now) c.requires.plays c.requires.going (g.S.Space.view c.take-2.new.space) c.in-Done.ensures.keeps c.requires.free c.requires.ready c.args.line c.args.asked
    (asked_there c.args.self.now.course c.args.line c.args.asked c.requires.ready c.requires.front) c.args.self.now.held c.take.result c.take.ensures.value c.in-Done.reply c.in-Done.fault c.in-Done.txn c.in-Done.ensures.taken c.in_default.is)

pub returns-in_default-clause-came : goal.returns-in_default-clause-came
returns-in_default-clause-came g c = record {
  asked = c.args.asked;
  comes = comes g.O.Local.faults (g.S.Space.view c.args.space.now) c.args.self.now c.requires.going c.requires.free c.args.line c.args.asked c.requires.front;
  taken = c.in-Done.ensures.taken.step;
  kind = c.in-Done.ensures.taken.kind;
  entry = c.in-Done.ensures.taken.entry;
  fresh = ap answered_count c.place.ensures ∙ behind_fresh g.O.Local.tells g.O.Local.txn g.O.Local.faults (g.S.Space.view c.args.space.now) (view_of c.args.self.now) c.requires.plays c.requires.going (g.S.Space.view c.take-2.new.space) c.in-Done.ensures.keeps c.requires.free c.requires.ready c.args.line c.args.asked
      (asked_there c.args.self.now.course c.args.line c.args.asked c.requires.ready c.requires.front) c.args.self.now.held c.take.result c.take.ensures.value c.in-Done.reply c.in-Done.fault c.in-Done.txn c.in-Done.ensures.taken;
  going = ap (λ (v : CourseView). v.place.stopped) c.place.ensures ∙ behind_going g.O.Local.tells g.O.Local.txn g.O.Local.faults (g.S.Space.view c.args.space.now) (view_of c.args.self.now) c.requires.plays c.requires.going (g.S.Space.view c.take-2.new.space) c.in-Done.ensures.keeps c.requires.free c.requires.ready c.args.line c.args.asked
      (asked_there c.args.self.now.course c.args.line c.args.asked c.requires.ready c.requires.front) c.args.self.now.held c.take.result c.take.ensures.value c.in-Done.reply c.in-Done.fault c.in-Done.txn c.in-Done.ensures.taken;
}

pub stop-requires-in-Done : goal.stop-requires-in-Done
stop-requires-in-Done g c =
    transport (λ i. IsStoppable g.O.Local.txn g.O.Local.faults (g.S.Space.view c.take-2.new.space) (record {
      actor = c.args.self.now.actor;
      course = sym c.place.ensures i;
      printed = sym (c.put_step.ensures.printed ∙ ap (λ p. line_printed p c.args.line c.in-Done.reply) c.make_room.ensures.printed) i;
      txn = sym c.put.ensures i;
      met = sym c.requires.free i;
    }) c.args.line c.in-Some.cause Run)
    (faulted g.O.Local.tells g.O.Local.txn g.O.Local.faults (g.S.Space.view c.args.space.now) (view_of c.args.self.now) c.requires.plays c.requires.going (g.S.Space.view c.take-2.new.space) c.in-Done.ensures.keeps c.requires.free c.requires.ready c.args.line c.args.asked
    (asked_there c.args.self.now.course c.args.line c.args.asked c.requires.ready c.requires.front) c.args.self.now.held c.take.result c.take.ensures.value c.in-Done.reply c.in-Done.fault c.in-Done.txn c.in-Done.ensures.taken c.in-Some.cause c.in-Some.is)

pub returns-in-Some-clause-came : goal.returns-in-Some-clause-came
returns-in-Some-clause-came g c =
    has_stopped g.O.Local.faults (g.S.Space.view c.args.space.now) c.args.self.now c.requires.going c.requires.free c.args.line c.args.asked c.requires.front (g.S.Space.view c.take-2.new.space) (g.S.Space.view c.stop-in-Done.new.space) c.stop-in-Done.new.self (c.in-Done.ensures.taken.step ∷ []) c.take.result c.in-Done.txn c.in-Some.cause
    c.take.ensures.value c.stop-in-Done.ensures.keeps c.in-Done.ensures.taken.entry (flush-alone g.O.Local.faults (g.S.Space.view c.args.space.now) c.args.self.now c.requires.going c.requires.free c.args.line c.args.asked c.requires.front c.in-Done.ensures.taken.step c.in-Done.ensures.taken.kind (c.in-Done.ensures.taken.faulted c.in-Some.cause c.in-Some.is).flushes)
    (c.in-Done.ensures.taken.faulted c.in-Some.cause c.in-Some.is).why c.stop-in-Done.ensures.halts.entry c.stop-in-Done.ensures.halts.stopped

-- ---- a step that was not taken

pub stop-requires-in-Refused : goal.stop-requires-in-Refused
stop-requires-in-Refused g c =
    transport (λ i. IsStoppable g.O.Local.txn g.O.Local.faults (g.S.Space.view c.take-2.new.space) (record (view_of c.args.self.now) { printed = sym c.make_room.ensures.printed i; txn = sym c.put-in-Refused.ensures i }) c.args.line c.in-Refused.cause Run)
    (refused g.O.Local.tells g.O.Local.txn g.O.Local.faults (g.S.Space.view c.args.space.now) (view_of c.args.self.now) c.requires.plays c.requires.going (g.S.Space.view c.take-2.new.space) c.in-Refused.ensures.keeps
    c.args.asked c.take.result c.in-Refused.txn c.in-Refused.cause c.args.line c.take.ensures.value c.in-Refused.ensures.taken
    (front_there c.args.self.now.course c.args.line c.args.asked c.requires.plays.course c.requires.going c.requires.ready c.requires.front))

pub returns-in-Refused-clause-came : goal.returns-in-Refused-clause-came
returns-in-Refused-clause-came g c =
    has_stopped g.O.Local.faults (g.S.Space.view c.args.space.now) c.args.self.now c.requires.going c.requires.free c.args.line c.args.asked c.requires.front (g.S.Space.view c.take-2.new.space) (g.S.Space.view c.stop-in-Refused.new.space) c.stop-in-Refused.new.self [] c.take.result c.in-Refused.txn c.in-Refused.cause
    c.take.ensures.value c.stop-in-Refused.ensures.keeps (c.in-Refused.ensures.taken.same ∙ sym (append-nil _)) tt c.in-Refused.ensures.taken.why c.stop-in-Refused.ensures.halts.entry c.stop-in-Refused.ensures.halts.stopped

pub returns-in-Busy-clause-plays : goal.returns-in-Busy-clause-plays
returns-in-Busy-clause-plays g c =
    transport (λ i. PlaysAs g.O.Local.tells g.O.Local.txn g.O.Local.faults (g.S.Space.view c.take-2.new.space) (record (view_of c.args.self.now) {
      printed = sym c.make_room.ensures.printed i;
      txn = (sym c.take.ensures.value ∙ c.in-Busy.ensures.taken.none ∙ sym c.take.ensures.after) i;
    }))
    (kept g.O.Local.tells g.O.Local.txn g.O.Local.faults (g.S.Space.view c.args.space.now) (g.S.Space.view c.take-2.new.space) (view_of c.args.self.now) c.in-Busy.ensures.keeps c.in-Busy.ensures.taken.same c.requires.plays)
