use Rattle.std.proofs.Common.{◌≡◌, ◌≤◌, ◌-◌, ◌+◌, ◌∙◌, arith, length, drop, ap, sym, subst}
use Rattle.std.proofs.lemmas.List.{drop-drop, length-drop}
use Rattle.xod_session.specs.contracts.course.Course as course
use Rattle.xod_session.specs.Courses.{CourseView, IsCourse, skipped}
use Rattle.xod_session.specs.Sessions.{private_count}
use Rattle.xod_session.proofs.CourseLemmas.{private_count-within, skipped-course}
use Rattle.xod_session.proofs.course.Course.skip.Goals as goal

pub overflow_sub-left : goal.overflow_sub-left
overflow_sub-left c = omega (arith, private_count-within c.rest.result.now, ap private_count c.rest.ensures.rest, c.requires.private)

-- the place that is reached
at_is : (c : goal.After-self-1) → c.len.result - (length c.rest.result.now - c.args.count) ≡ c.self.inside.spot.at + c.args.count
at_is c =
    let rest = c.rest.ensures.rest ∙ ap (λ (v : CourseView). v.place.rest) (sym c.self.view_is) in
    let short : c.args.count ≤ length c.rest.result.now = omega (arith, private_count-within c.rest.result.now, ap private_count c.rest.ensures.rest, c.requires.private) in
    omega (arith, ap length rest, length-drop c.self.inside.spot.at c.self.inside.statements, c.self.invariant.1.at, c.len.ensures)

rest_is : (c : goal.After-self-1) → drop (c.len.result - (length c.rest.result.now - c.args.count)) c.self.inside.statements ≡ drop c.args.count (drop c.self.inside.spot.at c.self.inside.statements)
rest_is c = ap (λ n. drop n c.self.inside.statements) (at_is c) ∙ sym (drop-drop c.args.count c.self.inside.spot.at c.self.inside.statements)

pub invariant_of-self : goal.invariant_of-self
invariant_of-self c =
    let view = course.the_view c.self.inside in
    let within : c.args.count ≤ private_count view.place.rest = subst (λ (v : CourseView). c.args.count ≤ private_count v.place.rest) (sym c.self.view_is) c.requires.private in
    let short : private_count view.place.rest ≤ length view.place.rest = private_count-within view.place.rest in (
      c.self.invariant.0,
      record { at = omega (arith, at_is c, length-drop c.self.inside.spot.at c.self.inside.statements, short, within, c.self.invariant.1.at); block = c.self.invariant.1.block },
      subst (λ l. IsCourse (record view { place = record view.place { rest = l } })) (sym (rest_is c)) (skipped-course view c.self.invariant.2 (ap (λ (v : CourseView). v.place.stopped) c.self.view_is ∙ c.requires.going) c.args.count within),
    )

pub returns : goal.returns
returns c =
    let view = course.the_view c.self.inside in
    ap (λ l. record view { place = record view.place { rest = l } }) (rest_is c) ∙ ap (λ v. skipped v c.args.count) c.self.view_is
