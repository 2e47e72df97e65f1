-- The next step of a session, by what it does next, and the steps that it makes of turns.
use Rattle.std.proofs.Common.{◌≡◌, ℕ, Bool, true, false, cond, List, [], ◌∷◌, drop, Option, Some, None, refl, sym, ap, ◌∙◌, drop-drop}
use Rattle.std.specs.Prelude.{◌&&◌, not, option_map, is_some}
use Rattle.std.proofs.lemmas.Option.{none-some, same_Some}
use Rattle.std.proofs.lemmas.Bool.{false≢true}
use Rattle.xod_base.specs.declared.causes.Cause.{Cause}
use Rattle.xod_lang.specs.declared.script.Statement.{Statement}
use Rattle.xod_lang.specs.declared.script.Turned.{Turned}
use Rattle.xod_lang.specs.declared.script.Turned.TheVariants as turn
use Rattle.xod_journal.specs.declared.journal.JournalEntry.{JournalEntry}
use Rattle.xod_journal.specs.declared.journal.Origin.TheVariants.{Order}
use Rattle.xod_journal.specs.declared.journal.Step.{Step}
use Rattle.xod_journal.specs.declared.journal.Step.TheVariants as step
use Rattle.xod_journal.specs.Standing.{Newest, Standing, after_step}
use Rattle.xod_journal.specs.Txns.{OpenTxn}
use Rattle.xod_session.specs.declared.course.SharedStep.{SharedStep}
use Rattle.xod_session.specs.declared.course.SharedStep.TheVariants as shared
use Rattle.xod_session.specs.declared.row.Halt.{Halt}
use Rattle.xod_session.specs.declared.session.Next.TheVariants as next
use Rattle.xod_session.specs.Calls.{can_halt_at, front_of, next_step, next_with}
use Rattle.xod_session.specs.Courses.{CourseView, IsCourse, answered_count, front_asked, since_place}
use Rattle.xod_session.specs.Dialogues.{Printed}
use Rattle.xod_session.specs.Seats.{IsAt}
use Rattle.xod_session.specs.Sessions.{answered_first, answered_with, can_stop, halted, private_before, private_count, readied, session_step, step_taken, stop_taken}
use Rattle.xod_session.specs.States.{Place, SessionState}
use Rattle.xod_session.specs.Steps.{turn_of}
use Rattle.xod_session.specs.Turns.{asks_then}
use Rattle.xod_session.specs.World.{front_made, newest_in, step_made, step_of}
use Rattle.xod_session.proofs.CourseLemmas.{closed-ready, private-split}
use Rattle.xod_play.specs.Players.{is_stop, is_taken, is_turn}

-- ---- turns by their steps

-- a step that is no stop and is asked for is not made of another turn
none_made : (now : Newest) (asked : SharedStep) (txn : Option OpenTxn) (wanted : Turned) → is_stop wanted ≡ false → is_turn (next_step asked) wanted ≡ false → step_of now (Some asked) txn wanted ≡ None
none_made now (shared.Begin mode) txn turn.Begin s t = absurd (false≢true (sym t))
none_made now (shared.Begin mode) txn turn.Flush s t = refl
none_made now (shared.Begin mode) txn turn.Revert s t = refl
none_made now (shared.Begin mode) txn turn.End s t = refl
none_made now (shared.Begin mode) txn turn.Sync s t = refl
none_made now asked txn (turn.Stop line cause) s t = absurd (false≢true (sym s))
none_made now shared.Flush txn turn.Flush s t = absurd (false≢true (sym t))
none_made now shared.Flush None turn.Begin s t = refl
none_made now shared.Flush (Some one) turn.Begin s t = refl
none_made now shared.Flush None turn.Revert s t = refl
none_made now shared.Flush (Some one) turn.Revert s t = refl
none_made now shared.Flush None turn.End s t = refl
none_made now shared.Flush (Some one) turn.End s t = refl
none_made now shared.Flush None turn.Sync s t = refl
none_made now shared.Flush (Some one) turn.Sync s t = refl
none_made now shared.Revert txn turn.Revert s t = absurd (false≢true (sym t))
none_made now shared.Revert txn turn.Begin s t = refl
none_made now shared.Revert txn turn.Flush s t = refl
none_made now shared.Revert txn turn.End s t = refl
none_made now shared.Revert txn turn.Sync s t = refl
none_made now shared.End txn turn.End s t = absurd (false≢true (sym t))
none_made now shared.End txn turn.Begin s t = refl
none_made now shared.End txn turn.Flush s t = refl
none_made now shared.End txn turn.Revert s t = refl
none_made now shared.End txn turn.Sync s t = refl
none_made now shared.Sync txn turn.Sync s t = absurd (false≢true (sym t))
none_made now shared.Sync txn turn.Begin s t = refl
none_made now shared.Sync txn turn.Flush s t = refl
none_made now shared.Sync txn turn.Revert s t = refl
none_made now shared.Sync txn turn.End s t = refl

-- nothing is made where nothing is asked for
none_asked : (now : Newest) (txn : Option OpenTxn) (wanted : Turned) → step_of now None txn wanted ≡ None
none_asked now txn turn.Begin = refl
none_asked now txn turn.Flush = refl
none_asked now txn turn.Revert = refl
none_asked now txn turn.End = refl
none_asked now txn turn.Sync = refl
none_asked now txn (turn.Stop line cause) = refl

-- a turn that a step is, is that of the step
pub turn-is : (asked : SharedStep) (wanted : Turned) → is_turn (next_step asked) wanted ≡ true → turn_of asked ≡ wanted
turn-is (shared.Begin mode) turn.Begin t = refl
turn-is (shared.Begin mode) turn.Flush t = absurd (false≢true t)
turn-is (shared.Begin mode) turn.Revert t = absurd (false≢true t)
turn-is (shared.Begin mode) turn.End t = absurd (false≢true t)
turn-is (shared.Begin mode) turn.Sync t = absurd (false≢true t)
turn-is (shared.Begin mode) (turn.Stop line cause) t = absurd (false≢true t)
turn-is shared.Flush turn.Flush t = refl
turn-is shared.Flush turn.Begin t = absurd (false≢true t)
turn-is shared.Flush turn.Revert t = absurd (false≢true t)
turn-is shared.Flush turn.End t = absurd (false≢true t)
turn-is shared.Flush turn.Sync t = absurd (false≢true t)
turn-is shared.Flush (turn.Stop line cause) t = absurd (false≢true t)
turn-is shared.Revert turn.Revert t = refl
turn-is shared.Revert turn.Begin t = absurd (false≢true t)
turn-is shared.Revert turn.Flush t = absurd (false≢true t)
turn-is shared.Revert turn.End t = absurd (false≢true t)
turn-is shared.Revert turn.Sync t = absurd (false≢true t)
turn-is shared.Revert (turn.Stop line cause) t = absurd (false≢true t)
turn-is shared.End turn.End t = refl
turn-is shared.End turn.Begin t = absurd (false≢true t)
turn-is shared.End turn.Flush t = absurd (false≢true t)
turn-is shared.End turn.Revert t = absurd (false≢true t)
turn-is shared.End turn.Sync t = absurd (false≢true t)
turn-is shared.End (turn.Stop line cause) t = absurd (false≢true t)
turn-is shared.Sync turn.Sync t = refl
turn-is shared.Sync turn.Begin t = absurd (false≢true t)
turn-is shared.Sync turn.Flush t = absurd (false≢true t)
turn-is shared.Sync turn.Revert t = absurd (false≢true t)
turn-is shared.Sync turn.End t = absurd (false≢true t)
turn-is shared.Sync (turn.Stop line cause) t = absurd (false≢true t)

-- ---- the front of a session

-- what a session makes of a turn that is no stop, by its next statement
made_of_front : (now : Newest) (s : SessionState) (rest : List Statement) (wanted : Turned) (line : ℕ) (asked : SharedStep) → is_stop wanted ≡ false → front_asked s.place.due rest ≡ Some (line, asked)
    → front_made now s rest wanted ≡ step_of now (Some asked) s.txn wanted
made_of_front now s [] wanted line asked stop front = absurd (none-some _ front)
made_of_front now s (statement ∷ more) wanted line asked stop front =
    shared_made wanted stop ∙ elim (asks_then s.place.due statement.form) as (λ (o : Option SharedStep). ◌≡◌ {A = Option (ℕ × SharedStep)} (option_map (λ a. (statement.line, a)) o) (Some (line, asked)) → step_of now o s.txn wanted ≡ step_of now (Some asked) s.txn wanted) [
      | None ↦ λ f. absurd (none-some _ f)
      | Some a ↦ λ f. ap (λ (p : ℕ × SharedStep). step_of now (Some p.1) s.txn wanted) (same_Some _ _ f)
    ] front
  where
    shared_made : (w : Turned) → is_stop w ≡ false → front_made now s (statement ∷ more) w ≡ step_of now (asks_then s.place.due statement.form) s.txn w
    shared_made turn.Begin h = refl
    shared_made turn.Flush h = refl
    shared_made turn.Revert h = refl
    shared_made turn.End h = refl
    shared_made turn.Sync h = refl
    shared_made (turn.Stop l c) h = absurd (false≢true (sym h))

none_front : (now : Newest) (s : SessionState) (rest : List Statement) (wanted : Turned) → is_stop wanted ≡ false → front_asked s.place.due rest ≡ None → front_made now s rest wanted ≡ None
none_front now s [] turn.Begin stop front = refl
none_front now s [] turn.Flush stop front = refl
none_front now s [] turn.Revert stop front = refl
none_front now s [] turn.End stop front = refl
none_front now s [] turn.Sync stop front = refl
none_front now s [] (turn.Stop line cause) stop front = absurd (false≢true (sym stop))
none_front now s (statement ∷ more) wanted stop front =
    elim (asks_then s.place.due statement.form) as (λ (o : Option SharedStep). ◌≡◌ {A = Option (ℕ × SharedStep)} (option_map (λ a. (statement.line, a)) o) None → asks_then s.place.due statement.form ≡ o → front_made now s (statement ∷ more) wanted ≡ None) [
      | None ↦ λ f is. by wanted stop is
      | Some a ↦ λ f is. absurd (none-some _ (sym f))
    ] front refl
  where
    by : (w : Turned) → is_stop w ≡ false → asks_then s.place.due statement.form ≡ None → front_made now s (statement ∷ more) w ≡ None
    by turn.Begin h is = ap (λ o. step_of now o s.txn turn.Begin) is
    by turn.Flush h is = ap (λ o. step_of now o s.txn turn.Flush) is
    by turn.Revert h is = ap (λ o. step_of now o s.txn turn.Revert) is
    by turn.End h is = ap (λ o. step_of now o s.txn turn.End) is
    by turn.Sync h is = ap (λ o. step_of now o s.txn turn.Sync) is
    by (turn.Stop l c) h is = absurd (false≢true (sym h))

module _ (start : Newest) (journal : List JournalEntry) (actor : ℕ) (course : CourseView) (is_course : IsCourse course) (printed : Printed) (txn : Option OpenTxn) (known : Bool) (at : IsAt start journal actor course printed txn known) where
  -- the place behind the last shared step
  pub since-is : since_place course ≡ at.come.place
  since-is = λ i. record (at.place i) { rest = at.since i }

  come_stopped : at.come.place.stopped ≡ course.place.stopped
  come_stopped = sym (ap (λ (p : Place). p.stopped) at.place)

  -- the session behind its private statements is at the same next statement
  rest_with : (held : Option OpenTxn) → at.come.txn ≡ held → course.place.stopped ≡ false → (answered_with (private_count at.come.place.rest) at.come held).place.rest ≡ drop (private_count course.place.rest) course.place.rest
  rest_with None is going =
      let closed : course.is_open ≡ false = sym at.open_is ∙ ap is_some is in
      let none = closed-ready course is_course going closed in
      sym (ap (λ n. drop n course.place.rest) none ∙ is_course.rest ∙ ap (λ n. drop n course.since) (is_course.closed closed) ∙ at.since)
  rest_with (Some t) is going =
      ap (λ l. drop (private_count l) l) (sym at.since)
      ∙ ap (λ n. drop n course.since) (private-split course is_course)
      ∙ sym (drop-drop (private_count course.place.rest) (answered_count course) course.since)
      ∙ ap (drop (private_count course.place.rest)) (sym is_course.rest)

  due_with : (n : ℕ) (held : Option OpenTxn) → (answered_with n at.come held).place.due ≡ course.place.due
  due_with n None = sym (ap (λ (p : Place). p.due) at.place)
  due_with n (Some t) = sym (ap (λ (p : Place). p.due) at.place)

  front_is : course.place.stopped ≡ false → front_asked (readied at.come).place.due (readied at.come).place.rest ≡ front_of course
  front_is going = λ i. front_asked (due_with (private_count at.come.place.rest) at.come.txn i) (rest_with at.come.txn refl going i)

  -- the step that it makes of a turn that is no stop
  pub front-made : (now : Newest) (wanted : Turned) (line : ℕ) (asked : SharedStep) → course.place.stopped ≡ false → is_stop wanted ≡ false → front_of course ≡ Some (line, asked)
      → step_made now at.come wanted ≡ step_of now (Some asked) (readied at.come).txn wanted
  front-made now wanted line asked going stop front = made_of_front now (readied at.come) (readied at.come).place.rest wanted line asked stop (front_is going ∙ front)

  -- ---- what is not taken

  stopped_taken : (now : Newest) (made : Step) → course.place.stopped ≡ true → session_step now at.come made ≡ None
  unfolding session_step
  stopped_taken now made stopped = ap (λ b. cond b None (step_taken now at.come made)) (come_stopped ∙ stopped)

  not_stepped : (now : Standing) (made : Step) → session_step (newest_in now) at.come made ≡ None → is_taken now actor at.come made ≡ false
  not_stepped now made none = ap (λ o. is_some (after_step now actor made) && is_some o) none ∙ neither (is_some (after_step now actor made))
    where
      neither : (b : Bool) → (b && false) ≡ false
      neither true = refl
      neither false = refl

  -- a session that does something else next takes nothing that it makes of a turn
  pub no-turn : (met : Option Halt) (now : Standing) (wanted : Turned) → is_stop wanted ≡ false → is_turn (cond course.place.stopped next.Finished (next_with (front_of course) met)) wanted ≡ false
      → (made : Step) → step_made (newest_in now) at.come wanted ≡ Some made → is_taken now actor at.come made ≡ false
  no-turn met now wanted stop other made made_is =
      elim course.place.stopped as (λ b. course.place.stopped ≡ b → is_turn (cond b next.Finished (next_with (front_of course) met)) wanted ≡ false → is_taken now actor at.come made ≡ false) [
        | true ↦ λ stopped o. not_stepped now made (stopped_taken (newest_in now) made stopped)
        | false ↦ λ going o. absurd (none-some made (sym (nothing going (front_of course) refl met o) ∙ made_is))
      ] refl other
    where
      nothing : course.place.stopped ≡ false → (front : Option (ℕ × SharedStep)) → front_of course ≡ front → (met : Option Halt) → is_turn (next_with front met) wanted ≡ false → step_made (newest_in now) at.come wanted ≡ None
      nothing going None is met o = none_front (newest_in now) (readied at.come) (readied at.come).place.rest wanted stop (front_is going ∙ is)
      nothing going (Some front) is None o = front-made (newest_in now) wanted front.0 front.1 going stop is ∙ none_made (newest_in now) front.1 (readied at.come).txn wanted stop o
      nothing going (Some front) is (Some halt) o = absurd (false≢true (sym o))

  -- a line where it can't stop
  pub no-stop : (now : Standing) (line : ℕ) (cause : Cause) → can_halt_at course line ≡ false → is_taken now actor at.come (step.Stop line cause Order) ≡ false
  unfolding session_step
  no-stop now line cause cant = not_stepped now (step.Stop line cause Order) (nothing course.place.stopped refl cant)
    where
      nothing : (b : Bool) → course.place.stopped ≡ b → (not b && can_stop (since_place course) line) ≡ false → session_step (newest_in now) at.come (step.Stop line cause Order) ≡ None
      nothing true is e = stopped_taken (newest_in now) (step.Stop line cause Order) is
      nothing false is e =
          ap (λ b. cond b None (stop_taken at.come line cause)) (come_stopped ∙ is)
          ∙ ap (λ b. cond b (Some (halted (answered_first (private_before line at.come.place.rest) at.come) line cause)) None) (ap (λ p. can_stop p line) (sym since-is) ∙ e)
