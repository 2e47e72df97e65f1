-- A session and a space go together, also after each call.
use mathlib.Core.Path.{transport}
use Rattle.std.proofs.Common.{◌≡◌, ◌≤◌, ℕ, zero, suc, ◌+◌, ◌-◌, Bool, true, false, cond, List, [], ◌∷◌, drop, length, Option, Some, None, refl, sym, ap, subst, ◌∙◌, arith, IsTrue}
use Rattle.std.specs.Prelude.{is_none, is_some, option_map, nat_lt, MatchOption, ◌&&◌}
use Rattle.std.specs.FinMap.{get, get-empty}
use Rattle.std.specs.Ordering.{nat_cmp}
use Rattle.std.proofs.lemmas.Option.{none-some, same_Some}
use Rattle.std.proofs.lemmas.Bool.{false≢true}
use Rattle.std.proofs.lemmas.List.{drop-drop, length-drop}
use Rattle.xod_base.specs.declared.answer.Reply.{Reply}
use Rattle.xod_base.specs.declared.answer.Reply.TheVariants as reply
use Rattle.xod_base.specs.declared.causes.Cause.{Cause}
use Rattle.xod_base.specs.declared.causes.Cause.TheVariants as cause
use Rattle.xod_base.specs.declared.query.Query.{Query}
use Rattle.xod_lang.specs.declared.script.Statement.{Statement}
use Rattle.xod_journal.specs.declared.journal.JournalEntry.{JournalEntry}
use Rattle.xod_journal.specs.declared.journal.Origin.{Origin}
use Rattle.xod_journal.specs.declared.journal.Origin.TheVariants.{Left, Order, Run}
use Rattle.xod_journal.specs.declared.journal.Step.TheVariants as step
use Rattle.xod_journal.specs.Books.{has_stopped}
use Rattle.xod_journal.specs.Laws.{NamesStay}
use Rattle.xod_journal.specs.Seats.{entered, has_open, seat_of}
use Rattle.xod_journal.specs.Spaces.{IsMet, IsSpace, KeepsSpace, SpaceView, faults_in}
use Rattle.xod_journal.specs.Standing.{Newest, after, opening, rows_at}
use Rattle.xod_journal.specs.Txns.{FitsRows, OpenTxn, pinned_of}
use Rattle.xod_journal.proofs.CallerLemmas.{booked-on, opening-told, rose-met, seat-open, seat-stopped}
use Rattle.xod_session.specs.declared.course.SharedStep.{SharedStep}
use Rattle.xod_session.specs.declared.dialogue.Dialogue.{Dialogue}
use Rattle.xod_session.specs.declared.row.Halt.{Halt}
use Rattle.xod_session.specs.declared.row.Row.{Row}
use Rattle.xod_session.specs.Answers.{AnswersRow, IsHaltedAt, IsMetBy, count_until, first_line}
use Rattle.xod_session.specs.Courses.{CourseView, IsCourse, IsReady, StopsAt, answered_count, course_halted, course_of, course_placed, front_asked, is_open_by, skipped}
use Rattle.xod_session.specs.Dialogues.{Printed, Prints, line_printed, printed_of}
use Rattle.xod_session.specs.Laws.{SessionsAgree}
use Rattle.xod_session.specs.Seats.{IsAt, IsSaid, IsStoppable, PlaysAs, SessionView, with_pending}
use Rattle.xod_session.specs.Sessions.{answered_first, private_before, private_count}
use Rattle.xod_session.specs.States.{SessionState, opened}
use Rattle.xod_session.specs.Steps.{Declines, IsHeld, Takes}
use Rattle.xod_session.specs.Transcripts.{answers_text}
use Rattle.xod_session.specs.Turns.{is_private, placed_then}
use Rattle.xod_session.proofs.AgreeLemmas.{placed-stopped}
use Rattle.xod_session.proofs.CourseLemmas.{flush-just, front-is, front-stops, halted-course, just-stops, none_answered, placed-course, private_count-drop, skipped-course}
use Rattle.xod_session.proofs.OptionLemmas.{never_true, some_there}
use Rattle.xod_session.proofs.PrintLemmas.{answered_zero}
use Rattle.xod_session.proofs.SeatLemmas.{goes-on, stepped-at, stopped-at}

-- ---- counts of private statements

pub until-within : (until : Option ℕ) (rest : List Statement) → count_until until rest ≤ private_count rest
until-within None rest = omega arith
until-within (Some line) [] = omega arith
until-within (Some line) (statement ∷ more) =
    elim (is_private statement.form) as (λ b. cond (b && nat_lt statement.line line) (suc (private_before line more)) 0 ≤ cond b (suc (private_count more)) 0) [
      | true ↦ elim (nat_lt statement.line line) as (λ b. cond b (suc (private_before line more)) 0 ≤ suc (private_count more)) [ true ↦ omega (arith, until-within (Some line) more) | false ↦ omega arith ]
      | false ↦ omega arith
    ]

before-drop : (line count : ℕ) (rest : List Statement) → count ≤ private_before line rest → private_before line rest ≡ count + private_before line (drop count rest)
before-drop line zero rest within = omega arith
before-drop line (suc count) [] within = absurd (omega arith)
before-drop line (suc count) (statement ∷ more) within =
    elim (is_private statement.form && nat_lt statement.line line) as (λ b. suc count ≤ cond b (suc (private_before line more)) 0 → cond b (suc (private_before line more)) 0 ≡ suc count + private_before line (drop count more)) [
      | true ↦ λ within. omega (arith, before-drop line count more (omega arith))
      | false ↦ λ within. absurd (omega arith)
    ] within

pub until-drop : (until : Option ℕ) (count : ℕ) (rest : List Statement) → count ≤ count_until until rest → count_until until rest ≡ count + count_until until (drop count rest)
until-drop None count rest within = private_count-drop count rest within
until-drop (Some line) count rest within = before-drop line count rest within

-- a row that nothing stopped has come to where it was asked to go
pub reaches : (until : Option ℕ) (rest : List Statement) (tells : Bool) (now : ℕ) (row : Row) → row.count ≤ count_until until rest → IsHaltedAt (drop row.count rest) tells now until row.met → row.met ≡ None
    → (row.count ≡ count_until until rest) × (count_until until (drop row.count rest) ≡ 0)
reaches until rest tells now row within halted free =
    let none : count_until until (drop row.count rest) ≡ 0 = subst (IsHaltedAt (drop row.count rest) tells now until) free halted in
    (omega (arith, until-drop until row.count rest within, none), none)

-- where no private statement comes next, there is nothing to answer
pub rests : (view : CourseView) → IsReady view → (until : Option ℕ) → view ≡ skipped view (count_until until view.place.rest)
rests view ready until =
    let none : count_until until view.place.rest ≡ 0 = omega (arith, until-within until view.place.rest, ready) in
    sym (ap (skipped view) none)

-- a cause that a transaction met, as the space has it: where the space tells its rows, so does the transaction
met-told : (tells there : Bool) (now : ℕ) (reason : Cause) → (IsTrue tells → IsTrue there) → IsMetBy there now reason → IsMetBy tells now reason
met-told tells there now cause.Device told rose = rose
met-told tells there now cause.Broken told none = none
met-told tells there now cause.Damaged told not_there = never_true tells (λ is. false≢true (sym not_there ∙ told is))
met-told tells there now cause.Spent told none = none
met-told tells there now cause.Memory told is = is

first_of : (rest : List Statement) (line : ℕ) → first_line rest ≡ Some line → (statement : Statement) × (more : List Statement) × (rest ≡ statement ∷ more) × (statement.line ≡ line)
first_of [] line is = absurd (none-some line is)
first_of (statement ∷ more) line is = (statement, more, refl, same_Some _ _ is)

module _ {Open : Type 0} (tells : Open → Bool) (txn : Open → OpenTxn) (faults : Open → ℕ) (space : SpaceView) where
  -- ---- a new session

  pub opens : (actor : ℕ) (script : List Statement) (printed : Printed) → IsCourse (course_of script) → Prints (opened script).said printed → space.journal ≡ [] → 1 ≤ actor → actor ≤ space.sessions
      → PlaysAs tells txn faults space (record { actor = actor; course = course_of script; printed = printed; txn = None; met = None })
  opens actor script printed course said empty least most = record {
    course = course;
    known = λ t. subst (λ j. IsAt space.start j actor (course_of script) printed None true) (sym empty) (record {
      come = opened script;
      is = refl;
      since = refl;
      place = refl;
      open_is = refl;
      said = said;
      txn_is = λ known. refl;
    });
    seat =
        let stopped : has_stopped ((opening space.start).books) actor ≡ false = ap is_some (get-empty nat_cmp actor) in
        let free : get ((opening space.start).books).txns actor ≡ None = get-empty nat_cmp actor in
        ap (λ j. seat_of space.start j actor) empty ∙ (λ i. Some (stopped i, free i));
    told = λ one is t. absurd (none-some one is);
    least = least;
    most = most;
    met = λ halt is. absurd (none-some halt is);
  }

  module _ (session : SessionView Open) (plays : PlaysAs tells txn faults space session) (going : session.course.place.stopped ≡ false) where
    -- ---- private statements

    halted_there : (until : Option ℕ) (course : CourseView) (there : Bool) (now : ℕ) (met : Option Halt) → (IsTrue space.tells → IsTrue there) → IsCourse course → course.place.stopped ≡ false → IsHaltedAt course.place.rest there now until met
        → (halt : Halt) → met ≡ Some halt → StopsAt course halt.line × IsMetBy space.tells now halt.cause
    halted_there until course there now None told is still halted halt e = absurd (none-some halt e)
    halted_there until course there now (Some given) told is still halted halt e =
        let f = first_of course.place.rest given.line halted.0 in
        let same = same_Some _ _ e in
        (subst (StopsAt course) (f.3 ∙ ap (λ (h : Halt). h.line) same) (front-stops course is still f.0 f.1 f.2), subst (λ (h : Halt). IsMetBy space.tells now h.cause) same (met-told space.tells there now given.cause told halted.1))

    pub prepared : (one new : Open) (said later : Dialogue) (until : Option ℕ) (row : Row) → session.txn ≡ Some one → session.met ≡ None → session.printed ≡ printed_of said
        → AnswersRow tells txn faults session.course.place.rest until said later one new row
        → PlaysAs tells txn faults space (record { actor = session.actor; course = skipped session.course row.count; printed = printed_of later; txn = Some new; met = row.met })
    prepared one new said later until row held free printed answers =
        let within : row.count ≤ private_count session.course.place.rest = omega (arith, answers.within, until-within until session.course.place.rest) in
        let course = skipped-course session.course plays.course going row.count within in
        record {
          course = course;
          known = λ t.
              let at : IsAt space.start space.journal session.actor session.course (printed_of said) (Some (txn one)) true =
              transport (λ i. IsAt space.start space.journal session.actor session.course (printed i) (option_map txn (held i)) (is_none (free i))) (plays.known t) in
              goes-on space.start space.journal session.actor session.course plays.course (printed_of said) (txn one) at row.count within (printed_of later) (txn new) row.met (answers.told (plays.told one held t));
          seat = plays.seat ∙ (λ i. Some (session.course.place.stopped, option_map pinned_of (option_map txn (held i)))) ∙ (λ i. Some (session.course.place.stopped, Some (sym answers.stays.pinned_same i)));
          told = λ other is t. subst (λ o. IsTrue (tells o)) (same_Some _ _ is) (subst IsTrue (sym answers.stays.tells_same) (plays.told one held t));
          least = plays.least;
          most = plays.most;
          met = halted_there until (skipped session.course row.count) (tells one) (faults new) row.met (plays.told one held) course going answers.halted;
        }

-- ---- stops

module _ {Open : Type 0} (tells : Open → Bool) (txn : Open → OpenTxn) (faults : Open → ℕ) (old new : SpaceView) (keeps : KeepsSpace old new) (lawful : IsSpace new) where
  pub stopped : (session : SessionView Open) (line : ℕ) (cause : Cause) (origin : Origin) → IsStoppable txn faults old session line cause origin → new.journal ≡ entered old.journal session.actor (step.Stop line cause origin)
      → PlaysAs tells txn faults new (record { actor = session.actor; course = course_halted session.course; printed = line_printed session.printed line (reply.Stop cause); txn = None; met = None })
  stopped session line cause origin stops entry =
      let seat = seat-open (seat_of old.start old.journal session.actor) (is_some session.txn) stops.can.seat in
      record {
        course = halted-course session.course stops.course;
        known = λ t. transport (λ i. IsAt (sym keeps.start_same i) (sym entry i) session.actor (course_halted session.course) (line_printed session.printed line (reply.Stop cause)) None true)
            (stopped-at old.start old.journal session.actor session.course stops.course session.printed (option_map txn session.txn) false (stops.known (subst IsTrue keeps.tells_same t)) line cause origin stops.going stops.stops);
        seat = (λ i. seat_of (keeps.start_same i) (entry i) session.actor) ∙ seat-stopped old.start old.journal session.actor line cause origin seat.0 seat.1 (booked-on old new (entered old.journal session.actor (step.Stop line cause origin)) lawful keeps entry);
        told = λ one is t. absurd (none-some one is);
        least = stops.can.least;
        most = subst (λ n. session.actor ≤ n) (sym keeps.sessions_same) stops.can.most;
        met = λ halt is. absurd (none-some halt is);
      }

-- the end of a list, and that behind its first element
later_pending : (missed : List Query) (query : Query) (pending : List Query) → query ∷ pending ≡ drop (length missed - length (query ∷ pending)) missed → pending ≡ drop (length missed - length pending) missed
later_pending missed query pending is =
    let n = length missed - length (query ∷ pending) in
    let long : suc (length pending) ≡ length missed - n = ap length is ∙ length-drop n missed in
    ap (drop 1) is ∙ drop-drop 1 n missed ∙ ap (λ k. drop k missed) (omega (arith, long))

-- ---- calls that append nothing

pub kept : {Open : Type 0} (tells : Open → Bool) (txn : Open → OpenTxn) (faults : Open → ℕ) (old new : SpaceView) (session : SessionView Open) → KeepsSpace old new → new.journal ≡ old.journal → PlaysAs tells txn faults old session
    → PlaysAs tells txn faults new session
kept tells txn faults old new session keeps same plays = record {
  course = plays.course;
  known = λ t. transport (λ i. IsAt (sym keeps.start_same i) (sym same i) session.actor session.course session.printed (option_map txn session.txn) (is_none session.met)) (plays.known (subst IsTrue keeps.tells_same t));
  seat = (λ i. seat_of (keeps.start_same i) (same i) session.actor) ∙ plays.seat;
  told = λ one is t. plays.told one is (subst IsTrue keeps.tells_same t);
  least = plays.least;
  most = subst (λ n. session.actor ≤ n) (sym keeps.sessions_same) plays.most;
  met = λ halt is. let m = plays.met halt is in (m.0, subst (λ t. IsMetBy t (faults_in faults session.txn) halt.cause) (sym keeps.tells_same) m.1);
}

-- ---- calls that go on where a session plays

mapped_some : {A B C : Type 0} (f : A → B) (g : B → C) (o : Option A) → is_some (option_map g (option_map f o)) ≡ is_some o
mapped_some f g None = refl
mapped_some f g (Some x) = refl

-- what a transaction has is not asked for where it is not known
pub unknown : (start : Newest) (journal : List JournalEntry) (actor : ℕ) (course : CourseView) (printed : Printed) (txn other : Option OpenTxn) (is_known : Bool) → IsAt start journal actor course printed txn is_known
    → IsAt start journal actor course printed other false
unknown start journal actor course printed txn other is_known at =
    record { come = at.come; is = at.is; since = at.since; place = at.place; open_is = at.open_is; said = at.said; txn_is = λ known. absurd (false≢true known) }

-- what is there where a statement was not answered, and where an order gives a stop
met_there : (space : SpaceView) (count : ℕ) → IsSpace space → (reason : Cause) → IsMetBy space.tells count reason → IsMet space count reason Run
met_there space count lawful cause.Device rose = rose-met space 0 count lawful rose
met_there space count lawful cause.Broken none = absurd none
met_there space count lawful cause.Damaged is = tt
met_there space count lawful cause.Spent none = absurd none
met_there space count lawful cause.Memory is = tt

memory_there : (space : SpaceView) (count : ℕ) (origin : Origin) → IsMet space count cause.Memory origin
memory_there space count Run = tt
memory_there space count Order = tt
memory_there space count Left = tt

pub order_there : (space : SpaceView) (count : ℕ) (reason : Cause) → IsMet space count reason Order
order_there space count cause.Device = tt
order_there space count cause.Broken = tt
order_there space count cause.Damaged = tt
order_there space count cause.Spent = tt
order_there space count cause.Memory = tt

-- ---- what was said

pub said-all : {Open : Type 0} (tells : Open → Bool) (txn : Open → OpenTxn) (faults : Open → ℕ) (space : SpaceView) (session : SessionView Open) → PlaysAs tells txn faults space session → session.course.is_open ≡ false → IsTrue space.tells
    → IsSaid space.start space.journal session.actor session.course.script session.printed.text
said-all tells txn faults space session plays closed t =
    let at = plays.known t in
    let none : answered_first (answered_count session.course) at.come ≡ at.come = ap (λ n. answered_first n at.come) (plays.course.closed closed) ∙ answered_zero at.come in
    record { come = at.come; is = at.is; text_is = at.said.text ∙ ap (λ (s : SessionState). answers_text s.said.replies) none }

-- a query that missed, handed out
module _ {Open : Type 0} (tells : Open → Bool) (txn : Open → OpenTxn) (faults : Open → ℕ) (space : SpaceView) (session : SessionView Open) (plays : PlaysAs tells txn faults space session) (pending : List Query) where
  handed : (query : Query) → session.printed.pending ≡ query ∷ pending → PlaysAs tells txn faults space (with_pending session pending)
  handed query is = record {
    course = plays.course;
    known = λ t. let at = plays.known t in let missed = (answered_first (answered_count session.course) at.come).said.missed in record {
      come = at.come;
      is = at.is;
      since = at.since;
      place = at.place;
      open_is = at.open_is;
      said = record {
        variables = at.said.variables;
        text = at.said.text;
        hits = at.said.hits;
        misses = at.said.misses;
        pending = later_pending missed query pending (sym is ∙ at.said.pending ∙ ap (λ l. drop (length missed - length l) missed) is);
      };
      txn_is = at.txn_is;
    };
    seat = plays.seat;
    told = plays.told;
    least = plays.least;
    most = plays.most;
    met = plays.met;
  }

  pub handed-out : (result : Option Query) → MatchOption result ((session.printed.pending ≡ []) × (pending ≡ [])) (λ query. session.printed.pending ≡ query ∷ pending) → PlaysAs tells txn faults space (with_pending session pending)
  handed-out None is = subst (λ l. PlaysAs tells txn faults space (with_pending session l)) (is.0 ∙ sym is.1) plays
  handed-out (Some query) is = handed query is

module _ {Open : Type 0} (tells : Open → Bool) (txn : Open → OpenTxn) (faults : Open → ℕ) (old : SpaceView) (session : SessionView Open) (plays : PlaysAs tells txn faults old session) (going : session.course.place.stopped ≡ false) where
  -- what it holds is what the journal has open for it
  seat_is : seat_of old.start old.journal session.actor ≡ Some (false, option_map pinned_of (option_map txn session.txn))
  seat_is = plays.seat ∙ (λ i. Some (going i, option_map pinned_of (option_map txn session.txn)))

  has_seat : (has : Bool) → is_some session.txn ≡ has → option_map has_open (seat_of old.start old.journal session.actor) ≡ Some (false, has)
  has_seat has is = ap (option_map has_open) seat_is ∙ (λ i. Some (false, (mapped_some txn pinned_of session.txn ∙ is) i))

  pub stoppable : (line : ℕ) (cause : Cause) (origin : Origin) → StopsAt session.course line → IsMet old (faults_in faults session.txn) cause origin → IsStoppable txn faults old session line cause origin
  stoppable line cause origin stops met = record {
    course = plays.course;
    going = going;
    known = λ t. unknown old.start old.journal session.actor session.course session.printed (option_map txn session.txn) (option_map txn session.txn) (is_none session.met) (plays.known t);
    stops = stops;
    can = record { least = plays.least; most = plays.most; seat = has_seat (is_some session.txn) refl; met = met };
  }

  -- a statement that was not answered
  pub met-stoppable : IsSpace old → (halt : Halt) → session.met ≡ Some halt → IsStoppable txn faults old session halt.line halt.cause Run
  met-stoppable lawful halt is = let m = plays.met halt is in stoppable halt.line halt.cause Run m.0 (met_there old (faults_in faults session.txn) lawful halt.cause m.1)

  pub front-stoppable : (line : ℕ) (origin : Origin) → first_line session.course.place.rest ≡ Some line → IsStoppable txn faults old session line cause.Memory origin
  front-stoppable line origin is =
      let f = first_of session.course.place.rest line is in
      stoppable line cause.Memory origin (subst (StopsAt session.course) f.3 (front-stops session.course plays.course going f.0 f.1 f.2)) (memory_there old (faults_in faults session.txn) origin)

  module _ (free : session.met ≡ None) where
    known_at : IsTrue old.tells → IsAt old.start old.journal session.actor session.course session.printed (option_map txn session.txn) true
    known_at t = subst (IsAt old.start old.journal session.actor session.course session.printed (option_map txn session.txn)) (ap is_none free) (plays.known t)

    fits_there : SessionsAgree → NamesStay → IsSpace old → (one : Open) → session.txn ≡ Some one → IsTrue old.tells → FitsRows (rows_at (txn one).base old.start.rows old.journal) (txn one)
    fits_there agree stay lawful one is t =
        let at = known_at t in
        let stands = some_there (after (Some (opening old.start)) old.journal) (lawful.stands t) in
        let there : (answered_first (answered_count session.course) at.come).txn ≡ Some (txn one) = sym (at.txn_is refl) ∙ ap (option_map txn) is in
        let holds = agree old.start session.course.script session.actor old.journal stands.0 at.come (answered_count session.course) plays.course.named (stay.0 old.start.rows (lawful.sound t)) stands.1 at.is in
        let f = holds.fits (txn one) there in
        let base = (opening-told old.start stands.0 old.journal stands.1).bases session.actor (pinned_of (txn one)) (holds.open_is ∙ ap (option_map pinned_of) there) in
        subst (λ r. FitsRows r (txn one)) (same_Some _ _ (sym f.is ∙ base.1)) f.fits

    pub held : SessionsAgree → NamesStay → IsSpace old → IsHeld tells txn old session.actor session.txn
    held agree stay lawful = record { seat = seat_is; told = plays.told; fits = fits_there agree stay lawful }

  module _ (new : SpaceView) (keeps : KeepsSpace old new) where
    -- a session that was refused its step
    pub refused : (asked : SharedStep) (before after : Option Open) (reason : Cause) (line : ℕ) → before ≡ session.txn → Declines faults old new asked before after reason → StopsAt session.course line
        → IsStoppable txn faults new (record session { txn = after }) line reason Run
    refused asked before after reason line was declines stops = record {
      course = plays.course;
      going = going;
      known = λ t. transport (λ i. IsAt (sym keeps.start_same i) (sym declines.same i) session.actor session.course session.printed (option_map txn after) false)
          (unknown old.start old.journal session.actor session.course session.printed (option_map txn session.txn) (option_map txn after) (is_none session.met) (plays.known (subst IsTrue keeps.tells_same t)));
      stops = stops;
      can = record {
        least = plays.least;
        most = subst (λ n. session.actor ≤ n) (sym keeps.sessions_same) plays.most;
        seat = ap (option_map has_open) (λ i. seat_of (keeps.start_same i) (declines.same i) session.actor) ∙ has_seat (is_some after) (sym (declines.has_txn ∙ ap is_some was));
        met = declines.met;
      };
    }

    -- a session whose step was taken
    module _ (free : session.met ≡ None) (ready : IsReady session.course) (line : ℕ) (asked : SharedStep) (front : front_asked session.course.place.due session.course.place.rest ≡ Some (line, asked))
        (has_txn : is_some session.txn ≡ session.course.is_open) (before : Option Open) (was : before ≡ session.txn) (answer : Reply) (fault : Option Cause) (after : Option Open) (given : Takes tells txn faults old new session.actor asked before answer fault after) where
      takes : Takes tells txn faults old new session.actor asked session.txn answer fault after
      takes = subst (λ b. Takes tells txn faults old new session.actor asked b answer fault after) was given

      abbrev pub behind : SessionView Open
      behind = record { actor = session.actor; course = course_placed session.course session.course.place.rest answer; printed = line_printed session.printed line answer; txn = after; met = None }

      behind_course : IsCourse behind.course
      behind_course = placed-course session.course plays.course going session.course.place.rest answer refl ready

      pub behind_going : behind.course.place.stopped ≡ false
      behind_going =
          let f = front-is session.course.place.due session.course.place.rest line asked front in
          ap (λ l. (course_placed session.course l answer).place.stopped) f.2 ∙ placed-stopped session.course.place session.course.place.due f.0 f.1 answer ∙ going

      pub behind_fresh : answered_count behind.course ≡ 0
      behind_fresh =
          let f = front-is session.course.place.due session.course.place.rest line asked front in
          ap (λ l. answered_count (course_placed session.course l answer)) f.2 ∙ none_answered (placed_then session.course.place session.course.place.due f.0 f.1 answer).rest

      -- a transaction is open behind the step as the course has it
      pub open_behind : is_some after ≡ behind.course.is_open
      open_behind =
          let f = front-is session.course.place.due session.course.place.rest line asked front in
          takes.has_txn ∙ (λ i. is_open_by (sym f.4 i) (has_txn i)) ∙ ap (λ l. (course_placed session.course l answer).is_open) (sym f.2)

      at_behind : IsTrue new.tells → (is_known : Bool) → IsAt new.start new.journal session.actor behind.course behind.printed takes.later is_known
      at_behind t is_known =
          let f = front-is session.course.place.due session.course.place.rest line asked front in
          let told = subst IsTrue keeps.tells_same t in
          transport (λ i. IsAt (sym keeps.start_same i) (sym takes.entry i) session.actor (course_placed session.course (sym f.2 i) answer) (line_printed session.printed (f.3 i) answer) takes.later is_known)
          (stepped-at old.start old.journal session.actor session.course plays.course session.printed (option_map txn session.txn) (known_at free told) f.0 f.1 f.2 ready going asked f.4 takes.later answer takes.step (takes.told told)
          (takes.has_later ∙ takes.has_txn ∙ (λ i. is_open_by (sym f.4 i) (has_txn i))) is_known)

      pub stepped : fault ≡ None → PlaysAs tells txn faults new behind
      stepped none =
          let on = takes.goes_on none in
          record {
            course = behind_course;
            known = λ t. subst (λ o. IsAt new.start new.journal session.actor behind.course behind.printed o true) (sym (on.0 (subst IsTrue keeps.tells_same t))) (at_behind t true);
            seat = on.1 ∙ (λ i. Some (sym behind_going i, option_map pinned_of (option_map txn after)));
            told = λ one is t. on.2 one is (subst IsTrue keeps.tells_same t);
            least = plays.least;
            most = subst (λ n. session.actor ≤ n) (sym keeps.sessions_same) plays.most;
            met = λ halt is. absurd (none-some halt is);
          }

      pub faulted : (reason : Cause) → fault ≡ Some reason → IsStoppable txn faults new behind line reason Run
      faulted reason is =
          let f = front-is session.course.place.due session.course.place.rest line asked front in
          let bad = takes.faulted reason is in
          let just : (course_placed session.course (f.0 ∷ f.1) answer).place.just ≡ Some line =
          ap (λ a. (placed_then session.course.place session.course.place.due f.0 f.1 a).just) bad.committed
          ∙ flush-just session.course.place session.course.place.due f.0 f.1 bad.version (f.4 ∙ ap Some bad.flushes) ∙ ap Some f.3 in
          record {
            course = behind_course;
            going = behind_going;
            known = λ t. unknown new.start new.journal session.actor behind.course behind.printed takes.later (option_map txn after) false (at_behind t false);
            stops = subst (λ l. StopsAt (course_placed session.course l answer) line) (sym f.2) (just-stops session.course plays.course going f.0 f.1 answer line f.2 just);
            can = record { least = plays.least; most = subst (λ n. session.actor ≤ n) (sym keeps.sessions_same) plays.most; seat = bad.seat; met = bad.met };
          }
