-- Players and the sessions of the world where they have come.
use Rattle.std.proofs.Common.{◌≡◌, ◌≤◌, ℕ, ◌+◌, Bool, true, false, cond, List, [], ◌∷◌, ◌++◌, map, drop, length, Option, Some, None, refl, sym, ap, subst, ◌∙◌, arith, IsTrue, eq-eqb}
use Rattle.std.specs.Prelude.{◌||◌, ◌&&◌, codes}
use Rattle.std.specs.List.{flat_map, list_all}
use Rattle.std.proofs.lemmas.Option.{none-some, same_Some}
use Rattle.std.proofs.lemmas.List.Sums.{sum_by-cons}
use Rattle.xod_lang.specs.declared.script.Statement.{Statement}
use Rattle.xod_journal.specs.Spaces.{SpaceView, newest_of}
use Rattle.xod_journal.specs.Standing.{Newest, Standing, opening}
use Rattle.xod_journal.specs.Txns.{OpenTxn}
use Rattle.xod_journal.proofs.CallerLemmas.{after-newest}
use Rattle.xod_session.specs.declared.course.SharedStep.{SharedStep}
use Rattle.xod_session.specs.declared.course.SharedStep.TheVariants as shared
use Rattle.xod_session.specs.declared.row.Halt.{Halt}
use Rattle.xod_session.specs.declared.session.Next.TheVariants as next
use Rattle.xod_session.specs.Calls.{IsFresh, front_of, next_of, next_step, next_with}
use Rattle.xod_session.specs.Courses.{CourseView, IsCourse, answered_count, front_asked}
use Rattle.xod_session.specs.Dialogues.{Prints, printed_of}
use Rattle.xod_session.specs.Seats.{counts_in, text_in}
use Rattle.xod_session.specs.Sessions.{answered_first, private_count, session_after}
use Rattle.xod_session.specs.States.{Place, SessionState, opened}
use Rattle.xod_session.specs.Transcripts.{answers_text, hits_of, item_of, misses_of, names_of, order_text, player_text, total_text, transcript_of}
use Rattle.xod_session.specs.World.{Player as WorldPlayer, session_of}
use Rattle.xod_session.proofs.CallerLemmas.{ended}
use Rattle.xod_session.proofs.PrintLemmas.{answered_zero}
use Rattle.xod_play.specs.declared.player.Player.{Player}
use Rattle.xod_play.specs.Orders.{is_at_end, is_finished, is_over}
use Rattle.xod_play.specs.Players.{TakesPart, is_done}
use Rattle.xod_play.specs.Rounds.{AllFresh, AllSit, AllTakePart, are_done, start_of}
use Rattle.xod_play.specs.Told.{hits_in, misses_in, names_in, told_text, told_transcript}
use Rattle.xod_play.proofs.FrontLemmas.{since-is}
use Rattle.xod_play.proofs.SeatedLemmas.{Stands, apart, opened_players}

-- ---- one player

-- what is printed of a player is what its session has said
pub record IsAlike {Open : Type 0} (player : Player Open) (other : WorldPlayer) : Type 0 where
  pub name : player.name ≡ other.name
  pub text : text_in player.session ≡ answers_text other.state.said.replies
  pub hits : (counts_in player.session).0 ≡ other.state.said.hits
  pub misses : (counts_in player.session).1 ≡ length other.state.said.missed
  pub over : is_done (next_of player.session) ≡ is_over other.state

pub going-on : (front : ℕ × SharedStep) (met : Option Halt) → is_done (next_with (Some front) met) ≡ false
going-on front (Some halt) = refl
going-on front None = by front.1
  where
    by : (asked : SharedStep) → is_done (next_step asked) ≡ false
    by (shared.Begin mode) = refl
    by shared.Flush = refl
    by shared.Revert = refl
    by shared.End = refl
    by shared.Sync = refl

-- a session is done where it has stopped, or has come to the end of its script
done_is : (course : CourseView) → IsCourse course → (met : Option Halt) → is_done (cond course.place.stopped next.Finished (next_with (front_of course) met)) ≡ (course.place.stopped || is_at_end course.place.rest)
done_is course is met =
    elim course.place.stopped as (λ b. course.place.stopped ≡ b → is_done (cond b next.Finished (next_with (front_of course) met)) ≡ (b || is_at_end course.place.rest)) [
      | true ↦ λ stopped. refl
      | false ↦ λ going. by going (front_of course) refl
    ] refl
  where
    by : course.place.stopped ≡ false → (front : Option (ℕ × SharedStep)) → front_of course ≡ front → is_done (next_with front met) ≡ is_at_end course.place.rest
    by going None none = sym (ap is_at_end (ended course is going none).0)
    by going (Some front) there = going-on front met ∙ sym (some_left course.place.rest refl)
      where
        some_left : (rest : List Statement) → course.place.rest ≡ rest → is_at_end rest ≡ false
        some_left [] e = absurd (none-some front (sym (ap (λ l. front_asked course.place.due (drop (private_count l) l)) e) ∙ there))
        some_left (statement ∷ more) e = refl

module _ {Open : Type 0} (tells : Open → Bool) (txn : Open → OpenTxn) (faults : Open → ℕ) where
  module _ (space : SpaceView) (t : IsTrue space.tells) (player : Player Open) (part : TakesPart tells txn faults space player) (fresh : IsFresh player.session) where
    abbrev come : SessionState
    come = (part.plays.known t).come

    place_is : player.session.course.place ≡ come.place
    place_is =
        let course = player.session.course in
        let rest : course.place.rest ≡ course.since = part.plays.course.rest ∙ ap (λ n. drop n course.since) fresh in
        ap (λ l. record course.place { rest = l }) rest ∙ since-is space.start space.journal player.session.actor course part.plays.course _ _ _ (part.plays.known t)

    said_is : Prints come.said (printed_of player.session.said)
    said_is =
        let none : answered_first (answered_count player.session.course) come ≡ come = ap (λ n. answered_first n come) fresh ∙ answered_zero come in
        subst (λ (s : SessionState). Prints s.said (printed_of player.session.said)) none (part.plays.known t).said

    pub alike-at : (other : WorldPlayer) → player.name ≡ other.name → (journal_state : session_after space.start player.session.actor (Some (opened player.session.course.script)) space.journal ≡ Some other.state) → IsAlike player other
    alike-at other named is =
        let same : come ≡ other.state = same_Some _ _ (sym (part.plays.known t).is ∙ is) in
        record {
          name = named;
          text = said_is.text ∙ ap (λ (s : SessionState). answers_text s.said.replies) same;
          hits = said_is.hits ∙ ap (λ (s : SessionState). s.said.hits) same;
          misses = said_is.misses ∙ ap (λ (s : SessionState). length s.said.missed) same;
          over = done_is player.session.course part.plays.course player.session.met ∙ ap (λ (p : Place). p.stopped || is_at_end p.rest) (place_is ∙ ap (λ (s : SessionState). s.place) same);
        }

-- ---- all players

abbrev pub AllAlike : {Open : Type 0} → List (Player Open) → List WorldPlayer → Type 0
AllAlike [] [] = Unit {0}
AllAlike [] (other ∷ others) = ⊥
AllAlike (player ∷ players) [] = ⊥
AllAlike (player ∷ players) (other ∷ others) = IsAlike player other × AllAlike players others

module _ {Open : Type 0} (tells : Open → Bool) (txn : Open → OpenTxn) (faults : Open → ℕ) where
  pub alike : (k : ℕ) (space : SpaceView) → IsTrue space.tells → (players : List (Player Open)) (others : List WorldPlayer) → AllTakePart tells txn faults k space players → AllFresh players → map (λ (p : WorldPlayer). p.name) others ≡ names_in players
      → ((actor : ℕ) → k ≤ actor → session_of k others actor ≡ session_after space.start actor (session_of k (opened_players players) actor) space.journal) → AllAlike players others
  alike k space t [] [] part fresh names states = tt
  alike k space t [] (other ∷ others) part fresh names states = absurd (no_list names)
    where
      no_list : {n : List ℕ} {ns : List (List ℕ)} → n ∷ ns ≡ [] → ⊥
      no_list e = let long = ap length e in omega (arith, long)
  alike k space t (player ∷ players) [] part fresh names states = absurd (no_list names)
    where
      no_list : {n : List ℕ} {ns : List (List ℕ)} → [] ≡ n ∷ ns → ⊥
      no_list e = let long = ap length e in omega (arith, long)
  alike k space t (player ∷ players) (other ∷ others) part fresh names states =
      let own = eq-eqb k k refl in
      let here : Some other.state ≡ session_after space.start k (Some (opened player.session.course.script)) space.journal =
      sym (ap (λ b. cond b (Some other.state) (session_of (k + 1) others k)) own) ∙ states k (omega arith)
      ∙ ap (λ b. session_after space.start k (cond b (Some (opened player.session.course.script)) (session_of (k + 1) (opened_players players) k)) space.journal) own in (
        alike-at tells txn faults space t player part.0.part fresh.0 other (sym (ap (head []) names)) (ap (λ n. session_after space.start n (Some (opened player.session.course.script)) space.journal) part.0.actor ∙ sym here),
        alike (k + 1) space t players others part.1 fresh.1 (ap (drop 1) names) (λ actor above.
            let other_one = apart actor k (omega (arith, above)) in
            sym (ap (λ b. cond b (Some other.state) (session_of (k + 1) others actor)) other_one) ∙ states actor (omega (arith, above))
            ∙ ap (λ b. session_after space.start actor (cond b (Some (opened player.session.course.script)) (session_of (k + 1) (opened_players players) actor)) space.journal) other_one),
      )
    where
      head : List ℕ → List (List ℕ) → List ℕ
      head d [] = d
      head d (x ∷ xs) = x

texts : {Open : Type 0} (players : List (Player Open)) (others : List WorldPlayer) → AllAlike players others → flat_map told_text players ≡ flat_map player_text others
texts [] [] all = refl
texts [] (other ∷ others) all = absurd all
texts (player ∷ players) [] all = absurd all
texts (player ∷ players) (other ∷ others) all = λ i. (codes "session " ++ (all.0.name i ++ (10 ∷ all.0.text i))) ++ texts players others all.1 i

hits : {Open : Type 0} (players : List (Player Open)) (others : List WorldPlayer) → AllAlike players others → hits_in players ≡ hits_of others
hits [] [] all = refl
hits [] (other ∷ others) all = absurd all
hits (player ∷ players) [] all = absurd all
hits (player ∷ players) (other ∷ others) all =
    sum_by-cons (λ p. (counts_in p.session).0) player players ∙ (λ i. all.0.hits i + hits players others all.1 i) ∙ sym (sum_by-cons (λ (p : WorldPlayer). p.state.said.hits) other others)

misses : {Open : Type 0} (players : List (Player Open)) (others : List WorldPlayer) → AllAlike players others → misses_in players ≡ misses_of others
misses [] [] all = refl
misses [] (other ∷ others) all = absurd all
misses (player ∷ players) [] all = absurd all
misses (player ∷ players) (other ∷ others) all =
    sum_by-cons (λ p. (counts_in p.session).1) player players ∙ (λ i. all.0.misses i + misses players others all.1 i) ∙ sym (sum_by-cons (λ (p : WorldPlayer). length p.state.said.missed) other others)

names : {Open : Type 0} (players : List (Player Open)) (others : List WorldPlayer) → AllAlike players others → names_in players ≡ map (λ (p : WorldPlayer). p.name) others
names [] [] all = refl
names [] (other ∷ others) all = absurd all
names (player ∷ players) [] all = absurd all
names (player ∷ players) (other ∷ others) all = λ i. all.0.name i ∷ names players others all.1 i

over : {Open : Type 0} (players : List (Player Open)) (others : List WorldPlayer) → AllAlike players others → are_done players ≡ list_all (λ (p : WorldPlayer). is_over p.state) others
over [] [] all = refl
over [] (other ∷ others) all = absurd all
over (player ∷ players) [] all = absurd all
over (player ∷ players) (other ∷ others) all = λ i. all.0.over i && over players others all.1 i

-- ---- the whole

module _ {Open : Type 0} (tells : Open → Bool) (txn : Open → OpenTxn) (faults : Open → ℕ) (space : SpaceView) (t : IsTrue space.tells) (players : List (Player Open)) (sit : AllSit tells txn faults 1 space players) (stood : Stands space players) where
  start_names : names_of (start_of space players) ≡ names_in players
  start_names = by players
    where
      by : (ps : List (Player Open)) → map (λ (p : WorldPlayer). p.name) (opened_players ps) ≡ names_in ps
      by [] = refl
      by (player ∷ more) = ap (λ l. player.name ∷ l) (by more)

  all_alike : AllAlike players stood.legal.world.players
  all_alike = alike tells txn faults 1 space t players stood.legal.world.players sit.part sit.fresh (stood.legal.names ∙ start_names) (λ actor above. stood.legal.sessions actor)

  pub commit-is : stood.legal.world.standing.books.commit ≡ (newest_of space).commit
  commit-is = ap (λ (s : Standing). s.books.commit) stood.legal.standing ∙ ap (λ (n : Newest). n.commit) (sym (after-newest (opening space.start) stood.now space.journal stood.stands))

  -- what is printed is the transcript
  pub transcript-is : (files : ℕ) → told_transcript (newest_of space).commit files space.journal players ≡ transcript_of stood.legal.world space.journal files
  unfolding told_transcript transcript_of
  transcript-is files = λ i. texts players stood.legal.world.players all_alike i
      ++ (total_text (sym commit-is i) (hits players stood.legal.world.players all_alike i) (misses players stood.legal.world.players all_alike i) files
      ++ order_text (map (item_of (names players stood.legal.world.players all_alike i)) space.journal))

  pub finished-is : are_done players ≡ is_finished stood.legal.world
  finished-is = over players stood.legal.world.players all_alike
