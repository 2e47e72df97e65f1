-- A session is where its script and a journal have come, also after its statements, its steps and its stops.
use Rattle.std.proofs.Common.{◌≡◌, ◌≤◌, ℕ, ◌+◌, Bool, true, false, cond, List, ◌∷◌, drop, Option, Some, None, refl, sym, ap, subst, ◌∙◌, arith, IsTrue}
use Rattle.std.specs.Prelude.{is_none, is_some}
use Rattle.std.proofs.lemmas.Option.{none-some}
use Rattle.std.proofs.lemmas.Bool.{false≢true}
use Rattle.std.proofs.lemmas.List.{drop-drop}
use Rattle.xod_base.specs.declared.answer.Reply.{Reply}
use Rattle.xod_base.specs.declared.answer.Reply.TheVariants as reply
use Rattle.xod_base.specs.declared.causes.Cause.{Cause}
use Rattle.xod_lang.specs.declared.script.Statement.{Statement}
use Rattle.xod_journal.specs.declared.journal.JournalEntry.{JournalEntry}
use Rattle.xod_journal.specs.declared.journal.Origin.{Origin}
use Rattle.xod_journal.specs.declared.journal.Step.{Step}
use Rattle.xod_journal.specs.declared.journal.Step.TheVariants as step
use Rattle.xod_journal.specs.Seats.{entered}
use Rattle.xod_journal.specs.Standing.{Newest, newest_after}
use Rattle.xod_journal.specs.Txns.{OpenTxn}
use Rattle.xod_session.specs.declared.course.SharedStep.{SharedStep}
use Rattle.xod_session.specs.declared.course.SharedStep.TheVariants as shared
use Rattle.xod_session.specs.declared.row.Halt.{Halt}
use Rattle.xod_session.specs.Answers.{Speaks}
use Rattle.xod_session.specs.Courses.{CourseView, IsCourse, IsReady, StopsAt, answered_count, at_place, course_halted, course_placed, is_open_by, since_place, skipped}
use Rattle.xod_session.specs.Dialogues.{Printed, Prints, Spoken, line_printed, printed_by}
use Rattle.xod_session.specs.Seats.{IsAt}
use Rattle.xod_session.specs.Sessions.{answered_by, answered_first, answered_with, can_stop, front_taken, halted, private_before, private_count, readied, session_after, session_step, step_taken, stop_taken, stepped}
use Rattle.xod_session.specs.States.{Place, SessionState, opened, replied}
use Rattle.xod_session.specs.Turns.{Turned, asks_then, placed_then, turned, turned_to}
use Rattle.xod_session.proofs.CourseLemmas.{answered-skipped, none_answered, private-split}
use Rattle.xod_session.proofs.PrintLemmas.{answered_by-add, answered_zero, prints-line, prints-row}
use Rattle.xod_session.proofs.SessionLemmas.{session_after-entered}

-- ---- statements after statements

more_with : (n m : ℕ) (s : SessionState) (txn : Option OpenTxn) → s.txn ≡ txn → answered_first m (answered_with n s txn) ≡ answered_with (n + m) s txn
more_with n m s None is = ap (answered_with m s) is
more_with n m s (Some t) is =
    (λ i. record {
      place = record s.place { rest = drop-drop m n s.place.rest i };
      said = (answered_by-add n m s.said t s.place.rest i).0;
      txn = Some (answered_by-add n m s.said t s.place.rest i).1;
    })

first-more : (n m : ℕ) (s : SessionState) → answered_first m (answered_first n s) ≡ answered_first (n + m) s
first-more n m s = more_with n m s s.txn refl

-- what was printed, and the transaction, where nothing stopped the row
speaks_first : (expected : Spoken) (printed : Printed) (txn : OpenTxn) (met : Option Halt) → Speaks expected printed txn met → expected.0 ≡ printed
speaks_first expected printed txn None is = ap (λ s. s.0) is
speaks_first expected printed txn (Some halt) is = is

speaks_txn : (expected : Spoken) (printed : Printed) (txn : OpenTxn) (met : Option Halt) → Speaks expected printed txn met → IsTrue (is_none met) → expected.1 ≡ txn
speaks_txn expected printed txn None is known = ap (λ s. s.1) is
speaks_txn expected printed txn (Some halt) is known = absurd (false≢true known)

-- ---- behind a shared step, where no private statement was answered yet

at-place : (start : Newest) (journal : List JournalEntry) (actor : ℕ) (course : CourseView) (printed : Printed) (s : SessionState) (place : Place) (is_open known : Bool)
    → session_after start actor (Some (opened course.script)) journal ≡ Some s → s.place ≡ place → is_some s.txn ≡ is_open → Prints s.said printed → IsAt start journal actor (at_place course place is_open) printed s.txn known
at-place start journal actor course printed s place is_open known is same open_is said =
    let none : answered_first (answered_count (at_place course place is_open)) s ≡ s = ap (λ n. answered_first n s) (none_answered place.rest) ∙ answered_zero s in
    record {
      come = s;
      is = is;
      since = ap (λ (p : Place). p.rest) (sym same);
      place = λ i. record (sym same i) { rest = place.rest };
      open_is = open_is;
      said = subst (λ (t : SessionState). Prints t.said printed) (sym none) said;
      txn_is = λ known. ap (λ (t : SessionState). t.txn) (sym none);
    }

module _ (start : Newest) (journal : List JournalEntry) (actor : ℕ) (course : CourseView) (is_course : IsCourse course) (printed : Printed) where
  -- ---- where it is

  module _ (txn : Option OpenTxn) (known : Bool) (at : IsAt start journal actor course printed txn known) where
    place_with : (held : Option OpenTxn) → at.come.txn ≡ held → (answered_with (answered_count course) at.come held).place ≡ course.place
    place_with None is =
        let closed : answered_count course ≡ 0 = is_course.closed (sym at.open_is ∙ ap is_some is) in
        let rest : course.place.rest ≡ at.come.place.rest = is_course.rest ∙ ap (λ n. drop n course.since) closed ∙ at.since in
        sym (at.place ∙ ap (λ l. record at.come.place { rest = l }) rest)
    place_with (Some t) is = ap (λ l. record at.come.place { rest = l }) (ap (drop (answered_count course)) (sym at.since) ∙ sym is_course.rest) ∙ sym at.place

    -- the place behind the statements that were answered
    pub answered-place : (answered_first (answered_count course) at.come).place ≡ course.place
    answered-place = place_with at.come.txn refl

    come_going : course.place.stopped ≡ false → at.come.place.stopped ≡ false
    come_going going = sym (ap (λ (p : Place). p.stopped) at.place) ∙ going

    -- ---- a stop

    stop_is : (line : ℕ) (cause : Cause) (origin : Origin) → course.place.stopped ≡ false → StopsAt course line
        → session_step (newest_after start journal) at.come (step.Stop line cause origin) ≡ Some (halted (answered_first (answered_count course) at.come) line cause)
    unfolding session_step
    stop_is line cause origin going stops =
        let since : since_place course ≡ at.come.place = (λ i. record (at.place i) { rest = at.since i }) in
        ap (λ b. cond b None (stop_taken at.come line cause)) (come_going going)
        ∙ ap (λ b. cond b (Some (halted (answered_first (private_before line at.come.place.rest) at.come) line cause)) None) (ap (λ p. can_stop p line) (sym since) ∙ stops.can)
        ∙ ap (λ n. Some (halted (answered_first n at.come) line cause)) (ap (private_before line) (sym at.since) ∙ stops.answered)

    pub stopped-at : (line : ℕ) (cause : Cause) (origin : Origin) → course.place.stopped ≡ false → StopsAt course line
        → IsAt start (entered journal actor (step.Stop line cause origin)) actor (course_halted course) (line_printed printed line (reply.Stop cause)) None true
    stopped-at line cause origin going stops =
        let here = answered_first (answered_count course) at.come in
        at-place start (entered journal actor (step.Stop line cause origin)) actor course (line_printed printed line (reply.Stop cause)) (halted here line cause) (record course.place { stopped = true; just = None }) false true
        (session_after-entered start actor (Some (opened course.script)) journal at.come (step.Stop line cause origin) at.is ∙ stop_is line cause origin going stops)
        (λ i. record (answered-place i) { stopped = true; just = None }) refl (prints-line here.said printed line (reply.Stop cause) at.said)

  -- ---- private statements

  pub goes-on : (txn : OpenTxn) → IsAt start journal actor course printed (Some txn) true → (count : ℕ) → count ≤ private_count course.place.rest → (later : Printed) (next : OpenTxn) (met : Option Halt)
      → Speaks (printed_by count printed txn course.place.rest) later next met → IsAt start journal actor (skipped course count) later (Some next) (is_none met)
  goes-on txn at count within later next met speaks =
      let here = answered_first (answered_count course) at.come in
      let there : answered_first (answered_count (skipped course count)) at.come ≡ answered_with count here (Some txn) =
      ap (λ n. answered_first n at.come) (answered-skipped course is_course count within) ∙ sym (first-more (answered_count course) count at.come) ∙ ap (answered_with count here) (sym (at.txn_is refl)) in
      let row = prints-row count here.said printed txn course.place.rest at.said in
      let rest : here.place.rest ≡ course.place.rest = ap (λ (p : Place). p.rest) (answered-place (Some txn) true at) in
      let speech = printed_by count printed txn course.place.rest in
      record {
        come = at.come;
        is = at.is;
        since = at.since;
        place = λ i. record (at.place i) { rest = drop count course.place.rest };
        open_is = at.open_is;
        said = subst (λ (s : SessionState). Prints s.said later) (sym there) (subst (λ l. Prints (answered_by count here.said txn l).0 later) (sym rest) (subst (Prints (answered_by count here.said txn course.place.rest).0) (speaks_first speech later next met speaks) row.said));
        txn_is = λ known. ap Some (sym (speaks_txn speech later next met speaks known) ∙ sym row.txn ∙ ap (λ l. (answered_by count here.said txn l).1) (sym rest)) ∙ ap (λ (s : SessionState). s.txn) (sym there);
      }

  -- ---- a shared step

  no_stop : (asked : SharedStep) (txn : Option OpenTxn) (line : ℕ) (cause : Cause) (origin : Origin) (later : Turned) → turned (Some asked) (newest_after start journal) txn (step.Stop line cause origin) ≡ Some later → ⊥
  no_stop (shared.Begin mode) None line cause origin later e = none-some later e
  no_stop (shared.Begin mode) (Some t) line cause origin later e = none-some later e
  no_stop shared.Flush None line cause origin later e = none-some later e
  no_stop shared.Flush (Some t) line cause origin later e = none-some later e
  no_stop shared.Revert None line cause origin later e = none-some later e
  no_stop shared.Revert (Some t) line cause origin later e = none-some later e
  no_stop shared.End None line cause origin later e = none-some later e
  no_stop shared.End (Some t) line cause origin later e = none-some later e
  no_stop shared.Sync txn line cause origin later e = none-some later e

  module _ (txn : Option OpenTxn) (at : IsAt start journal actor course printed txn true) (statement : Statement) (more : List Statement) (rest_is : course.place.rest ≡ statement ∷ more) (ready : IsReady course) (going : course.place.stopped ≡ false)
      (asked : SharedStep) (front : asks_then course.place.due statement.form ≡ Some asked) (later : Option OpenTxn) (answer : Reply) where
    -- the session behind the step
    abbrev next : SessionState
    next =
        let here = answered_first (answered_count course) at.come in
        record { place = placed_then here.place here.place.due statement more answer; said = replied here.said statement.line answer; txn = later }

    front_is : (taken : Step) → turned (Some asked) (newest_after start journal) txn taken ≡ Some (turned_to later answer)
        → front_taken (newest_after start journal) (readied at.come) (readied at.come).place.rest taken ≡ Some next
    front_is taken told =
        let here = answered_first (answered_count course) at.come in
        let count : private_count at.come.place.rest ≡ answered_count course = omega (arith, ap private_count at.since, private-split course is_course, ready) in
        let place = answered-place txn true at in
        ap (λ n. front_taken (newest_after start journal) (answered_first n at.come) (answered_first n at.come).place.rest taken) count
        ∙ ap (λ l. front_taken (newest_after start journal) here l taken) (ap (λ (p : Place). p.rest) place ∙ rest_is)
        ∙ ap (stepped here statement more) (
        (λ i. turned (asks_then (place i).due statement.form) (newest_after start journal) (sym (at.txn_is refl) i) taken)
        ∙ ap (λ o. turned o (newest_after start journal) txn taken) front
        ∙ told
        )

    step_is : (taken : Step) → turned (Some asked) (newest_after start journal) txn taken ≡ Some (turned_to later answer) → step_taken (newest_after start journal) at.come taken ≡ Some next
    step_is (step.Begin mode) told = front_is (step.Begin mode) told
    step_is (step.Flush changes version) told = front_is (step.Flush changes version) told
    step_is step.Revert told = front_is step.Revert told
    step_is step.End told = front_is step.End told
    step_is step.Sync told = front_is step.Sync told
    step_is (step.Stop line cause origin) told = absurd (no_stop asked txn line cause origin (turned_to later answer) told)

    session_is : (taken : Step) → turned (Some asked) (newest_after start journal) txn taken ≡ Some (turned_to later answer) → session_step (newest_after start journal) at.come taken ≡ Some next
    unfolding session_step
    session_is taken told = ap (λ b. cond b None (step_taken (newest_after start journal) at.come taken)) (come_going txn true at going) ∙ step_is taken told

    pub stepped-at : (taken : Step) → turned (Some asked) (newest_after start journal) txn taken ≡ Some (turned_to later answer) → is_some later ≡ is_open_by (asks_then course.place.due statement.form) course.is_open → (known : Bool)
        → IsAt start (entered journal actor taken) actor (course_placed course (statement ∷ more) answer) (line_printed printed statement.line answer) later known
    stepped-at taken told open_is known =
        let here = answered_first (answered_count course) at.come in
        let place = answered-place txn true at in
        at-place start (entered journal actor taken) actor course (line_printed printed statement.line answer) next (placed_then course.place course.place.due statement more answer) (is_open_by (asks_then course.place.due statement.form) course.is_open) known
        (session_after-entered start actor (Some (opened course.script)) journal at.come taken at.is ∙ session_is taken told)
        (λ i. placed_then (place i) (place i).due statement more answer) open_is (prints-line here.said printed statement.line answer at.said)
