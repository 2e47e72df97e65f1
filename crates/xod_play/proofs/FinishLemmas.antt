-- Sessions that are ended, one after the other.
use Rattle.std.proofs.Common.{◌≡◌, ◌≤◌, ◌<◌, ℕ, ◌+◌, Bool, true, false, cond, List, [], ◌∷◌, ◌++◌, length, Option, Some, None, refl, sym, ap, subst, ◌∙◌, inl, inr, arith, append-nil, append_assoc, eqb-true, eq-eqb}
use Rattle.std.specs.Prelude.{◌==◌, ◌&&◌, not, option_map, is_some}
use Rattle.std.specs.FinMap.{empty, get-empty, nat_cmp-IsAntisymmetric, same_map}
use Rattle.std.specs.List.{list_all}
use Rattle.std.specs.Ordering.{nat_cmp}
use Rattle.std.proofs.lemmas.Bool.{cases_lt, false≢true}
use Rattle.std.proofs.lemmas.Cmp.{nat_cmp_total}
use Rattle.std.proofs.lemmas.Option.{same_Some}
use Rattle.std.proofs.lemmas.List.{length_push}
use Rattle.std.proofs.lemmas.List.Folds.{list_all-append}
use Rattle.xod_journal.specs.declared.journal.JournalEntry.{JournalEntry}
use Rattle.xod_journal.specs.declared.journal.Origin.TheVariants.{Left}
use Rattle.xod_journal.specs.declared.journal.Step.TheVariants as step
use Rattle.xod_journal.specs.Books.{Books, all_booked}
use Rattle.xod_journal.specs.Seats.{Seat, books_after, entered, seat_in, seat_of}
use Rattle.xod_journal.specs.Spaces.{IsSpace, KeepsSpace, SpaceView}
use Rattle.xod_journal.specs.Standing.{Newest, opening}
use Rattle.xod_journal.specs.Txns.{OpenTxn, pinned_of}
use Rattle.xod_journal.proofs.CallerLemmas.{all_booked-append, booked-on, seat-beside, seat-stopped}
use Rattle.xod_journal.proofs.JournalLemmas.{all_booked-none}
use Rattle.xod_session.specs.declared.row.Halt.{Halt}
use Rattle.xod_session.specs.declared.session.Next.TheVariants as next
use Rattle.xod_session.specs.declared.session.Session.{Session}
use Rattle.xod_session.specs.declared.course.SharedStep.{SharedStep}
use Rattle.xod_session.specs.Calls.{Finishes, front_of, next_of, next_with}
use Rattle.xod_session.specs.Courses.{CourseView, IsCourse}
use Rattle.xod_session.specs.Laws.{is_others, is_players}
use Rattle.xod_session.specs.Seats.{Plays}
use Rattle.xod_session.specs.States.{opened}
use Rattle.xod_session.specs.World.{World, session_of}
use Rattle.xod_session.proofs.CallerLemmas.{ended}
use Rattle.xod_session.proofs.OptionLemmas.{both_true, never_true, none_there, some_there}
use Rattle.xod_play.specs.declared.player.Player.{Player}
use Rattle.xod_play.specs.Finished.{HasFinished, is_left_stop}
use Rattle.xod_play.specs.Players.{is_done}
use Rattle.xod_play.specs.Rounds.{AllTakePart, are_closed, are_done, start_of}
use Rattle.xod_play.proofs.AlikeLemmas.{going-on}
use Rattle.xod_play.proofs.CauseLemmas.{keeps-on}
use Rattle.xod_play.proofs.SeatedLemmas.{fronts-part, opened_players, part-pop}

-- ---- sessions without a transaction

pub closed-pop : {Open : Type 0} (players front : List (Player Open)) (player : Player Open) → players ≡ front ++ player ∷ [] → are_closed players ≡ true → (are_closed front ≡ true) × (player.session.course.is_open ≡ false)
closed-pop players front player is closed =
    let all = both_true (are_closed front) (not player.session.course.is_open && true) (sym (ap are_closed is ∙ list_all-append (λ p. not p.session.course.is_open) front (player ∷ [])) ∙ closed) in
    let one = both_true (not player.session.course.is_open) true all.1 in
    (all.0, not_open player.session.course.is_open one.0)
  where
    not_open : (b : Bool) → not b ≡ true → b ≡ false
    not_open true e = absurd (false≢true e)
    not_open false e = refl

pub closed-push : {Open : Type 0} (players : List (Player Open)) (player : Player Open) → are_closed players ≡ true → player.session.course.is_open ≡ false → are_closed (players ++ player ∷ []) ≡ true
closed-push players player closed own = list_all-append (λ p. not p.session.course.is_open) players (player ∷ []) ∙ (λ i. closed i && (not (own i) && true))

-- a session that is done has none
done_closed : (course : CourseView) → IsCourse course → (met : Option Halt) → is_done (cond course.place.stopped next.Finished (next_with (front_of course) met)) ≡ true → course.is_open ≡ false
done_closed course is met done =
    elim course.place.stopped as (λ b. course.place.stopped ≡ b → is_done (cond b next.Finished (next_with (front_of course) met)) ≡ true → course.is_open ≡ false) [
      | true ↦ λ stopped d. is.over stopped
      | false ↦ λ going d. by going (front_of course) refl d
    ] refl done
  where
    by : course.place.stopped ≡ false → (front : Option (ℕ × SharedStep)) → front_of course ≡ front → is_done (next_with front met) ≡ true → course.is_open ≡ false
    by going None none d = (ended course is going none).1
    by going (Some front) there d = absurd (false≢true (sym (going-on front met) ∙ d))

module _ {Open : Type 0} (tells : Open → Bool) (txn : Open → OpenTxn) (faults : Open → ℕ) where
  pub all-closed : (k : ℕ) (space : SpaceView) (players : List (Player Open)) → AllTakePart tells txn faults k space players → are_done players ≡ true → are_closed players ≡ true
  all-closed k space [] part done = refl
  all-closed k space (player ∷ more) part done =
      let both = both_true (is_done (next_of player.session)) (are_done more) done in
      let own = done_closed player.session.course part.0.part.plays.course player.session.met both.0 in
      λ i. not (own i) && all-closed (k + 1) space more part.1 both.1 i

-- ---- actors without a transaction

-- the journal has no transaction open for an actor
abbrev pub IsShut : SpaceView → ℕ → Type 0
IsShut space actor = option_map (λ (s : Seat). s.1) (seat_of space.start space.journal actor) ≡ Some None

-- nor for any but those from 1 up to a number
abbrev pub AreShutPast : SpaceView → ℕ → Type 0
AreShutPast space count = (actor : ℕ) → (1 ≤ actor → actor ≤ count → ⊥) → IsShut space actor

-- the books at the front of a journal that they admit
booked_front : (start : Newest) (journal more : List JournalEntry) → is_some (books_after start (journal ++ more)) ≡ true → is_some (books_after start journal) ≡ true
booked_front start journal more there =
    elim (books_after start journal) as (λ o. is_some (all_booked o more) ≡ true → is_some o ≡ true) [
      | None ↦ λ t. absurd (false≢true (sym (ap is_some (all_booked-none more)) ∙ t))
      | Some books ↦ λ t. refl
    ] (sym (ap is_some (all_booked-append (Some ((opening start).books)) journal more)) ∙ there)

-- entries of others leave an actor's seat
others_seat : (start : Newest) (journal more : List JournalEntry) (actor : ℕ) → list_all (is_others actor) more ≡ true → is_some (books_after start (journal ++ more)) ≡ true → seat_of start (journal ++ more) actor ≡ seat_of start journal actor
others_seat start journal [] actor all there = ap (λ j. seat_of start j actor) (append-nil journal)
others_seat start journal (entry ∷ more) actor all there =
    let both = both_true (is_others actor entry) (list_all (is_others actor) more) all in
    let grown : journal ++ entry ∷ more ≡ entered journal entry.actor entry.step ++ more = sym (append_assoc journal (entry ∷ []) more) in
    let on : is_some (books_after start (entered journal entry.actor entry.step ++ more)) ≡ true = ap (λ j. is_some (books_after start j)) (sym grown) ∙ there in
    ap (λ j. seat_of start j actor) grown
    ∙ others_seat start (entered journal entry.actor entry.step) more actor both.1 on
    ∙ seat-beside start journal actor entry.actor entry.step (other (entry.actor == actor) both.0) (booked_front start (entered journal entry.actor entry.step) more on)
  where
    other : (b : Bool) → not b ≡ true → b ≡ false
    other true e = absurd (false≢true e)
    other false e = refl

-- a number that no player has
unseated : {Open : Type 0} (k : ℕ) (players : List (Player Open)) (actor : ℕ) → (k ≤ actor → actor < k + length players → ⊥) → session_of k (opened_players players) actor ≡ None
unseated k [] actor none = refl
unseated k (player ∷ more) actor none =
    elim (actor == k) as (λ b. (actor == k) ≡ b → cond b (Some (opened player.session.course.script)) (session_of (k + 1) (opened_players more) actor) ≡ None) [
      | true ↦ λ e. let is = eqb-true actor k e in absurd (none (omega arith) (omega arith))
      | false ↦ λ e. unseated (k + 1) more actor (λ least most. none (omega (arith, least)) (omega (arith, most)))
    ] refl

all_others : (start : World) (actor : ℕ) (journal : List JournalEntry) → session_of 1 start.players actor ≡ None → list_all (is_players start) journal ≡ true → list_all (is_others actor) journal ≡ true
all_others start actor [] none own = refl
all_others start actor (entry ∷ more) none own =
    let both = both_true (is_players start entry) (list_all (is_players start) more) own in
    λ i. not (apart both.0 i) && all_others start actor more none both.1 i
  where
    apart : is_some (session_of 1 start.players entry.actor) ≡ true → (entry.actor == actor) ≡ false
    apart there = never_true (entry.actor == actor) (λ e. false≢true (sym (ap is_some (ap (session_of 1 start.players) (eqb-true entry.actor actor e) ∙ none)) ∙ there))

-- at first none but the players have any
pub shut-first : {Open : Type 0} (space : SpaceView) (players : List (Player Open)) → IsSpace space → list_all (is_players (start_of space players)) space.journal ≡ true → AreShutPast space (length players)
shut-first space players lawful own actor none =
    let others = all_others (start_of space players) actor space.journal (unseated 1 players actor (λ least most. none least (omega (arith, most)))) own in
    ap (option_map (λ (s : Seat). s.1)) (others_seat space.start [] space.journal actor others lawful.booked) ∙ ap (λ t. Some t) (get-empty nat_cmp actor)

-- where none has any, no transaction is open
pub none-open : (space : SpaceView) → IsSpace space → AreShutPast space 0 → option_map (λ books. books.txns) (books_after space.start space.journal) ≡ Some empty
none-open space lawful shut =
    let there = some_there (books_after space.start space.journal) lawful.booked in
    ap (option_map (λ (b : Books). b.txns)) there.1
    ∙ ap (λ m. Some m) (same_map nat_cmp_total nat_cmp-IsAntisymmetric (there.0).txns empty (λ actor.
    same_Some _ _ (sym (ap (λ o. option_map (λ (s : Seat). s.1) (option_map (seat_in actor) o)) there.1) ∙ shut actor (λ least most. omega (arith, least, most))) ∙ sym (get-empty nat_cmp actor)))

-- ---- one session is ended

-- A journal has stops of sessions that were left more, and no other entries.
pub record Leaves (old new : List JournalEntry) : Type 0 where
  pub left : List JournalEntry
  pub grown : new ≡ old ++ left
  pub only : list_all (λ entry. is_left_stop entry.step) left ≡ true

pub leaves-none : (journal : List JournalEntry) → Leaves journal journal
leaves-none journal = record { left = []; grown = sym (append-nil journal); only = refl }

leaves_one : (first old new : List JournalEntry) (entry : JournalEntry) → Leaves first old → new ≡ old ++ entry ∷ [] → is_left_stop entry.step ≡ true → Leaves first new
leaves_one first old new entry leaves is stop = record {
  left = leaves.left ++ entry ∷ [];
  grown = is ∙ ap (λ j. j ++ entry ∷ []) leaves.grown ∙ append_assoc first leaves.left (entry ∷ []);
  only = list_all-append (λ (e : JournalEntry). is_left_stop e.step) leaves.left (entry ∷ []) ∙ (λ i. leaves.only i && (stop i && true));
}

module _ {Open : Type 0} (tells : Open → Bool) (txn : Open → OpenTxn) (faults : Open → ℕ) where
  -- Some sessions were ended, and these players are left.
  pub record IsEnding (first now : SpaceView) (players left : List (Player Open)) : Type 0 where
    pub part : AllTakePart tells txn faults 1 now left
    pub shut : AreShutPast now (length left)
    pub leaves : Leaves first.journal now.journal
    pub none : are_closed players ≡ true → (are_closed left ≡ true) × (now ≡ first)
    pub keeps : KeepsSpace first now

  module _ (old new : SpaceView) (session : Session Open) (plays : Plays tells txn faults old session) (finishes : Finishes old new session) (keeps : KeepsSpace old new) (lawful : IsSpace new) where
    -- its own seat
    own_shut : (is_open : Bool) → session.course.is_open ≡ is_open → IsShut new session.actor
    own_shut false is =
        let none : session.txn ≡ None = none_there session.txn (session.held ∙ is) in
        subst (λ s. IsShut s session.actor) (sym (finishes.closed is))
        (ap (option_map (λ (s : Seat). s.1)) plays.seat ∙ ap (λ o. Some (option_map pinned_of (option_map txn o))) none)
    own_shut true is =
        let given = finishes.given is in
        let going : session.course.place.stopped ≡ false = never_true session.course.place.stopped (λ stopped. false≢true (sym (plays.course.over stopped) ∙ is)) in
        let seat = plays.seat ∙ ap (λ b. Some (b, option_map pinned_of (option_map txn session.txn))) going in
        (λ i. option_map (λ (s : Seat). s.1) (seat_of (keeps.start_same i) (given.entry i) session.actor))
        ∙ ap (option_map (λ (s : Seat). s.1)) (seat-stopped old.start old.journal session.actor given.line given.reason Left _ seat (booked-on old new _ lawful keeps given.entry))

    -- that of another
    other_shut : (is_open : Bool) → session.course.is_open ≡ is_open → (actor : ℕ) → (session.actor == actor) ≡ false → IsShut old actor → IsShut new actor
    other_shut false is actor apart shut = subst (λ s. IsShut s actor) (sym (finishes.closed is)) shut
    other_shut true is actor apart shut =
        let given = finishes.given is in
        (λ i. option_map (λ (s : Seat). s.1) (seat_of (keeps.start_same i) (given.entry i) actor))
        ∙ ap (option_map (λ (s : Seat). s.1)) (seat-beside old.start old.journal actor session.actor (step.Stop given.line given.reason Left) apart (booked-on old new _ lawful keeps given.entry)) ∙ shut

    leaves_on : (first : List JournalEntry) (is_open : Bool) → session.course.is_open ≡ is_open → Leaves first old.journal → Leaves first new.journal
    leaves_on first false is leaves = subst (λ (s : SpaceView). Leaves first s.journal) (sym (finishes.closed is)) leaves
    leaves_on first true is leaves = let given = finishes.given is in leaves_one first old.journal new.journal _ leaves given.entry refl

    pub one-ended : (first : SpaceView) (players before front : List (Player Open)) (player : Player Open) → player.session ≡ session → before ≡ front ++ player ∷ [] → IsEnding first old players before → IsEnding first new players front
    one-ended first players before front player same are ending =
        let parts = part-pop tells txn faults 1 old front player (subst (λ l. AllTakePart tells txn faults 1 old l) are ending.part) in
        let number : session.actor ≡ 1 + length front = ap (λ (s : Session Open). s.actor) (sym same) ∙ parts.1.actor in
        let count : length before ≡ length front + 1 = ap length are ∙ length_push front player in
        record {
          part = fronts-part tells txn faults old new keeps lawful session.actor finishes.grows 1 front (sym number) parts.0;
          shut = λ actor none. elim (session.actor == actor) as (λ b. (session.actor == actor) ≡ b → IsShut new actor) [
            | true ↦ λ e. subst (IsShut new) (eqb-true session.actor actor e) (own_shut session.course.is_open refl)
            | false ↦ λ e. other_shut session.course.is_open refl actor e (ending.shut actor (λ least most.
                none least (not_last actor (length front) (length before) most count (λ is. false≢true (sym e ∙ eq-eqb session.actor actor (number ∙ sym is))))))
          ] refl;
          leaves = leaves_on first.journal session.course.is_open refl ending.leaves;
          none = λ closed.
              let before_closed = ending.none closed in
              let popped = closed-pop before front player are before_closed.0 in
              (popped.0, finishes.closed (ap (λ (s : Session Open). s.course.is_open) (sym same) ∙ popped.1) ∙ before_closed.1);
          keeps = keeps-on first old new ending.keeps keeps;
        }
      where
        not_last : (actor front before : ℕ) → actor ≤ before → before ≡ front + 1 → (actor ≡ 1 + front → ⊥) → actor ≤ front
        not_last actor front before most count apart = elim (cases_lt front actor) [ inl above ↦ let is : actor ≡ 1 + front = omega (arith, most, count, above) in absurd (apart is) | inr within ↦ within ]

  -- none is left
  pub all-ended : (first now : SpaceView) (players left : List (Player Open)) → IsSpace now → AllTakePart tells txn faults 1 first players → left ≡ [] → IsEnding first now players left → HasFinished first now (are_done players)
  all-ended first now players left lawful part none ending = record {
    left = ending.leaves.left;
    grown = ending.leaves.grown;
    only = ending.leaves.only;
    none = λ done. (ending.none (all-closed tells txn faults 1 first players part done)).1;
    closed = none-open now lawful (subst (λ l. AreShutPast now (length l)) none ending.shut);
  }
