-- What a turn of one session leaves of another, and where a session is between its turns.
use mathlib.Core.Path.{transport}
use Rattle.std.proofs.Common.{◌≡◌, ◌≤◌, ℕ, suc, Bool, true, false, cond, List, [], ◌∷◌, ◌++◌, map, drop, Option, Some, None, refl, sym, ap, subst, ◌∙◌, arith, IsTrue, append-nil, append_assoc}
use Rattle.std.specs.Prelude.{is_none, is_some, not, option_map, ◌==◌, ◌&&◌}
use Rattle.std.specs.List.{list_all}
use Rattle.std.proofs.lemmas.Option.{none-some}
use Rattle.std.proofs.lemmas.Bool.{false≢true}
use Rattle.xod_lang.specs.declared.script.Statement.{Statement}
use Rattle.xod_journal.specs.declared.journal.JournalEntry.{JournalEntry}
use Rattle.xod_journal.specs.declared.journal.Step.{Step}
use Rattle.xod_journal.specs.declared.journal.Step.TheVariants as step
use Rattle.xod_journal.specs.declared.journal.Origin.TheVariants.{Run}
use Rattle.xod_journal.specs.Books.{all_booked}
use Rattle.xod_journal.specs.Seats.{books_after, entered, seat_of}
use Rattle.xod_journal.specs.Spaces.{IsSpace, KeepsSpace, SpaceView, faults_in}
use Rattle.xod_journal.specs.Standing.{Newest, newest_after, opening}
use Rattle.xod_journal.specs.Txns.{OpenTxn}
use Rattle.xod_journal.proofs.CallerLemmas.{all_booked-append, seat-beside}
use Rattle.xod_journal.proofs.JournalLemmas.{all_booked-none}
use Rattle.xod_session.specs.declared.course.Due.{Due}
use Rattle.xod_session.specs.declared.course.Due.TheVariants.{Fresh, Ending, Reverting}
use Rattle.xod_session.specs.declared.course.SharedStep.{SharedStep}
use Rattle.xod_session.specs.declared.session.Progress.{Progress}
use Rattle.xod_session.specs.declared.session.Progress.TheVariants as progress
use Rattle.xod_session.specs.declared.session.Session.{Session}
use Rattle.xod_session.specs.Answers.{IsMetBy}
use Rattle.xod_session.specs.Calls.{Grows, Halts, IsFresh, PreparesTo, Progresses, front_of}
use Rattle.xod_session.specs.Courses.{CourseView, IsCourse, answered_count, front_asked, skipped}
use Rattle.xod_session.specs.Dialogues.{Prints}
use Rattle.xod_session.specs.Laws.{is_others}
use Rattle.xod_session.specs.Seats.{IsAt, PlaysAs, Rests, SessionView}
use Rattle.xod_session.specs.Sessions.{answered_first, private_before, private_count}
use Rattle.xod_session.specs.States.{SessionState, opened}
use Rattle.xod_session.specs.Turns.{asks}
use Rattle.xod_session.specs.World.{entry_of}
use Rattle.xod_session.proofs.CourseLemmas.{answered-skipped, closed-ready, ended-closed, private_count-drop, skipped-course}
use Rattle.xod_session.proofs.PlaysLemmas.{until-within}
use Rattle.xod_session.proofs.PrintLemmas.{answered_zero}
use Rattle.xod_session.proofs.SeatLemmas.{answered-place}
use Rattle.xod_session.proofs.SessionLemmas.{others_leave, session_after-append}

-- ---- entries of one actor

others : (q a : ℕ) → (a == q) ≡ false → (steps : List Step) → list_all (is_others q) (map (entry_of a) steps) ≡ true
others q a apart [] = refl
others q a apart (taken ∷ more) = ap (λ b. not b && list_all (is_others q) (map (entry_of a) more)) apart ∙ others q a apart more

-- the books at the front of a journal that they admit
booked_front : (start : Newest) (journal more : List JournalEntry) → is_some (books_after start (journal ++ more)) ≡ true → is_some (books_after start journal) ≡ true
booked_front start journal more there =
    elim (books_after start journal) as (λ o. is_some (all_booked o more) ≡ true → is_some o ≡ true) [
      | None ↦ λ t. absurd (false≢true (sym (ap is_some (all_booked-none more)) ∙ t))
      | Some books ↦ λ t. refl
    ] (sym (ap is_some (all_booked-append (Some ((opening start).books)) journal more)) ∙ there)

seat_beside : (start : Newest) (journal : List JournalEntry) (q a : ℕ) → (a == q) ≡ false → (steps : List Step) → is_some (books_after start (journal ++ map (entry_of a) steps)) ≡ true
    → seat_of start (journal ++ map (entry_of a) steps) q ≡ seat_of start journal q
seat_beside start journal q a apart [] there = ap (λ j. seat_of start j q) (append-nil journal)
seat_beside start journal q a apart (taken ∷ more) there =
    let grown : journal ++ map (entry_of a) (taken ∷ more) ≡ entered journal a taken ++ map (entry_of a) more = sym (append_assoc journal (entry_of a taken ∷ []) (map (entry_of a) more)) in
    let on : is_some (books_after start (entered journal a taken ++ map (entry_of a) more)) ≡ true = ap (λ j. is_some (books_after start j)) (sym grown) ∙ there in
    ap (λ j. seat_of start j q) grown
    ∙ seat_beside start (entered journal a taken) q a apart more on
    ∙ seat-beside start journal q a taken apart (booked_front start (entered journal a taken) (map (entry_of a) more) on)

module _ {Open : Type 0} (tells : Open → Bool) (txn : Open → OpenTxn) (faults : Open → ℕ) where
  -- a turn of one session leaves where another one is
  pub beside : (old new : SpaceView) (session : SessionView Open) (actor : ℕ) → KeepsSpace old new → IsSpace new → Grows old.journal new.journal actor → (actor == session.actor) ≡ false
      → PlaysAs tells txn faults old session → PlaysAs tells txn faults new session
  beside old new session actor keeps lawful grows apart plays =
      let journal = old.journal ++ map (entry_of actor) grows.steps in
      record {
        course = plays.course;
        known = λ t.
            let at = plays.known (subst IsTrue keeps.tells_same t) in
            transport (λ i. IsAt (sym keeps.start_same i) (sym grows.grown i) session.actor session.course session.printed (option_map txn session.txn) (is_none session.met)) (record {
              come = at.come;
              is = session_after-append old.start session.actor (Some (opened session.course.script)) old.journal (map (entry_of actor) grows.steps)
                  ∙ others_leave (newest_after old.start old.journal) session.actor _ (map (entry_of actor) grows.steps) (others session.actor actor apart grows.steps) ∙ at.is;
              since = at.since;
              place = at.place;
              open_is = at.open_is;
              said = at.said;
              txn_is = at.txn_is;
            });
        seat = (λ i. seat_of (keeps.start_same i) (grows.grown i) session.actor)
            ∙ seat_beside old.start old.journal session.actor actor apart grows.steps (subst (λ j. is_some (books_after old.start j) ≡ true) grows.grown (subst (λ n. is_some (books_after n new.journal) ≡ true) keeps.start_same lawful.booked)) ∙ plays.seat;
        told = λ one is t. plays.told one is (subst IsTrue keeps.tells_same t);
        least = plays.least;
        most = subst (λ n. session.actor ≤ n) (sym keeps.sessions_same) plays.most;
        met = λ halt is. let m = plays.met halt is in (m.0, subst (λ t. IsMetBy t (faults_in faults session.txn) halt.cause) (sym keeps.tells_same) m.1);
      }

  -- a session without an open transaction is where its script and the journal have come
  pub rests : (space : SpaceView) (session : SessionView Open) → PlaysAs tells txn faults space session → session.course.is_open ≡ false → IsTrue space.tells
      → Rests space.start space.journal session.actor session.course session.printed
  rests space session plays closed t =
      let at = plays.known t in
      let none : answered_first (answered_count session.course) at.come ≡ at.come = ap (λ n. answered_first n at.come) (plays.course.closed closed) ∙ answered_zero at.come in
      record {
        come = at.come;
        is = at.is;
        place = ap (λ (s : SessionState). s.place) (sym none) ∙ answered-place space.start space.journal session.actor session.course plays.course session.printed (option_map txn session.txn) (is_none session.met) at;
        said = subst (λ (s : SessionState). Prints s.said session.printed) none at.said;
      }

-- the entries of a call
pub progress-grows : {Open : Type 0} (faults : Open → ℕ) (old new : SpaceView) (before after : Session Open) (came : Progress) → Progresses faults old new before after came → Grows old.journal new.journal before.actor
progress-grows faults old new before after progress.Stepped is = record { steps = is.taken ∷ []; grown = is.entry }
progress-grows faults old new before after (progress.Busy holder) is = record { steps = []; grown = is.journal ∙ sym (append-nil old.journal) }
progress-grows faults old new before after (progress.Stopped line reason) is = record { steps = is.flushed ++ step.Stop line reason Run ∷ []; grown = is.entries }
progress-grows faults old new before after progress.Finished is = record { steps = []; grown = ap (λ (s : SpaceView). s.journal) is.space ∙ sym (append-nil old.journal) }

pub halt-grows : {Open : Type 0} (old new : SpaceView) (before after : Session Open) (taken : Step) → Halts old new before after taken → Grows old.journal new.journal before.actor
halt-grows old new before after taken is = record { steps = taken ∷ []; grown = is.entry }

-- ---- between turns

-- where nothing was answered since the last shared step, and then the private statements before a line, no others were
pub prepared-answered : {Open : Type 0} (line : ℕ) (old new : Session Open) → IsCourse old.course → IsFresh old → old.course.place.stopped ≡ false → new.met ≡ None → PreparesTo (Some line) old new
    → private_before line new.course.since ≡ answered_count new.course
prepared-answered line old new course fresh going free prepares =
    let rest : old.course.place.rest ≡ old.course.since = course.rest ∙ ap (λ n. drop n old.course.since) fresh in
    let count = private_before line old.course.place.rest in
    let is = prepares.course going free in
    ap (λ (v : CourseView). private_before line v.since) is ∙ ap (private_before line) (sym rest)
    ∙ omega (arith, fresh, answered-skipped old.course course count (until-within (Some line) old.course.place.rest))
    ∙ ap answered_count (sym is)

shared_first : (due : Due) (statement : Statement) (more : List Statement) → private_count (statement ∷ more) ≡ 0 → front_asked due (statement ∷ more) ≡ None → ⊥
shared_first Fresh statement more ready e =
    elim (asks statement.form) as (λ (o : Option SharedStep). cond (not (is_some o)) (suc (private_count more)) 0 ≡ 0 → ◌≡◌ {A = Option (ℕ × SharedStep)} (option_map (λ asked. (statement.line, asked)) o) None → ⊥) [
      | None ↦ λ ready e. omega (arith, ready)
      | Some asked ↦ λ ready e. none-some _ (sym e)
    ] ready e
shared_first Ending statement more ready e = none-some _ (sym e)
shared_first Reverting statement more ready e = none-some _ (sym e)

-- a session that has no further shared step is at the end of its script, and has no transaction open
pub ended : (view : CourseView) → IsCourse view → view.place.stopped ≡ false → front_of view ≡ None → (view.place.rest ≡ []) × (view.is_open ≡ false)
ended view course going none =
    let count = private_count view.place.rest in
    let ready : private_count (drop count view.place.rest) ≡ 0 = omega (arith, private_count-drop count view.place.rest (omega arith)) in
    let empty = elim (drop count view.place.rest) as (λ l. private_count l ≡ 0 → front_asked view.place.due l ≡ None → l ≡ []) [
      | [] ↦ λ ready e. refl
      | statement ∷ more ↦ λ ready e. absurd (shared_first view.place.due statement more ready e)
    ] ready none in
    let closed = ended-closed (skipped view count) (skipped-course view course going count (omega arith)) going empty in
    (sym (ap (λ n. drop n view.place.rest) (closed-ready view course going closed)) ∙ empty, closed)
