use Rattle.std.proofs.Common.{◌≡◌, ◌∙◌, Some, refl, ap, sym, subst, drop}
use Rattle.std.specs.List.{slice_get}
use Rattle.xod_session.specs.contracts.course.Course as course
use Rattle.xod_session.specs.Courses.{CourseView, IsCourse, IsReady, IsWithin, course_placed, place_behind, spot_place}
use Rattle.xod_session.proofs.CourseLemmas.{placed-course, spot-placed}
use Rattle.xod_session.proofs.course.Course.place.Goals as goal

-- the course that is reached
placed : (c : goal.After-self-2-1) → ◌≡◌ {A = CourseView} (course.the_view (record c.self.inside { since = c.spot_behind-self-inside.result.at; spot = c.spot_behind-self-inside.result; is_open = c.is_open_by-self-inside.result }))
    (course_placed (course.the_view c.self.inside) (course.the_view c.self.inside).place.rest c.args.reply.now)
placed c =
    let script = c.self.inside.statements in
    let spot = c.self.inside.spot in
    let stopped = c.self.inside.stopped in
    let later = c.spot_behind-self-inside.result in
    let statement = c.in-Some.statement.now in
    let same = c.as_slice-statements.ensures in
    spot-placed script (drop c.self.inside.since script) spot later c.self.inside.is_open c.is_open_by-self-inside.result stopped statement c.args.reply.now
    (subst (λ l. Some statement ≡ slice_get l 0) (c.split_at.ensures.back ∙ ap (drop spot.at) same) c.in-Some.ensures.value)
    (subst (λ l. spot_place l stopped later ≡ place_behind (spot_place l stopped spot) (drop spot.at l) c.args.reply.now) same (c.spot_behind-self-inside.ensures.place stopped))
    (c.is_open_by-self-inside.ensures ∙ ap (λ a. Rattle.xod_session.specs.Courses.is_open_by a c.self.inside.is_open) c.asks_then.ensures)

pub invariant_of-self : goal.invariant_of-self
invariant_of-self c =
    let view = course.the_view c.self.inside in
    let within = subst (λ l. IsWithin l c.spot_behind-self-inside.result) c.as_slice-statements.ensures c.spot_behind-self-inside.ensures.within in (
      within.at,
      within,
      subst IsCourse (sym (placed c)) (placed-course view c.self.invariant.2 (ap (λ (v : CourseView). v.place.stopped) c.self.view_is ∙ c.requires.going) view.place.rest c.args.reply.now refl (subst IsReady (sym c.self.view_is) c.requires.ready)),
    )

pub returns : goal.returns
returns c = placed c ∙ ap (λ (v : CourseView). course_placed v v.place.rest c.args.reply.now) c.self.view_is
