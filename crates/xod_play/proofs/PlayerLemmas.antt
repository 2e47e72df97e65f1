-- What a turn of one player comes to.
use Rattle.std.proofs.Common.{◌≡◌, ℕ, Bool, true, false, cond, List, [], ◌∷◌, ◌++◌, map, drop, Option, Some, None, refl, sym, ap, subst, ◌∙◌, ◌⊎◌, inl, inr, IsTrue, append-nil}
use Rattle.std.specs.Prelude.{◌&&◌, ◌||◌, not, option_map, option_and_then, is_some}
use Rattle.std.specs.List.{list_any}
use Rattle.std.specs.FinMap.{get}
use Rattle.std.proofs.lemmas.Option.{none-some, same_Some}
use Rattle.std.proofs.lemmas.Bool.{false≢true}
use Rattle.std.proofs.lemmas.List.Folds.{list_any-append}
use Rattle.xod_base.specs.declared.causes.Cause.{Cause}
use Rattle.xod_base.specs.declared.causes.Cause.TheVariants as cause
use Rattle.xod_base.specs.declared.query.Mode.{Mode}
use Rattle.xod_lang.specs.declared.script.Turned.{Turned}
use Rattle.xod_lang.specs.declared.script.Turned.TheVariants as turn
use Rattle.xod_journal.specs.declared.journal.JournalEntry.{JournalEntry}
use Rattle.xod_journal.specs.declared.journal.Origin.TheVariants.{Order, Run}
use Rattle.xod_journal.specs.declared.journal.Pinned.{Pinned}
use Rattle.xod_journal.specs.declared.journal.Step.{Step}
use Rattle.xod_journal.specs.declared.journal.Step.TheVariants as step
use Rattle.xod_journal.specs.Books.{booked, booked_in, has_stopped, holder, pinned}
use Rattle.xod_journal.specs.Seats.{busy_of}
use Rattle.xod_journal.specs.Spaces.{KeepsSpace, SpaceView, faults_in}
use Rattle.xod_journal.specs.Standing.{Standing, after, after_step, moved, opening}
use Rattle.xod_journal.specs.Txns.{OpenTxn}
use Rattle.xod_journal.proofs.CallerLemmas.{after-booked}
use Rattle.xod_session.specs.declared.course.SharedStep.{SharedStep}
use Rattle.xod_session.specs.declared.course.SharedStep.TheVariants as shared
use Rattle.xod_session.specs.declared.row.Halt.{Halt}
use Rattle.xod_session.specs.declared.session.Next.{Next}
use Rattle.xod_session.specs.declared.session.Next.TheVariants as next
use Rattle.xod_session.specs.declared.session.Session.{Session}
use Rattle.xod_session.specs.Answers.{IsMetBy}
use Rattle.xod_session.specs.Calls.{Halts, HasStepped, HasStopped, IsBusy, IsFlushAlone, IsFresh, IsRefused, PreparesTo, can_halt_at, front_of, next_of, next_step, next_with}
use Rattle.xod_session.specs.Courses.{CourseView, IsCourse, answered_count, since_place}
use Rattle.xod_session.specs.Laws.{without_origin}
use Rattle.xod_session.specs.Seats.{Plays}
use Rattle.xod_session.specs.Sessions.{can_stop, private_before, session_after, session_step}
use Rattle.xod_session.specs.States.{Place, SessionState, opened}
use Rattle.xod_session.specs.Steps.{IsReason, turn_of}
use Rattle.xod_session.specs.Transcripts.{turned_of}
use Rattle.xod_session.specs.World.{entry_of, newest_in, step_made}
use Rattle.xod_session.proofs.CallerLemmas.{ended, prepared-answered}
use Rattle.xod_play.specs.declared.player.Player.{Player}
use Rattle.xod_play.specs.Follows.{has_given_up}
use Rattle.xod_play.specs.Players.{CantTake, HasCome, IsPlayedAs, IsSamePlayer, Sits, TakesPart, Took, Turns, is_stop, is_taken, is_turn}
use Rattle.xod_play.specs.Stops.{is_broken, is_damage, is_disturbed, is_met, is_spent}
use Rattle.xod_play.proofs.EntryLemmas.{either_true, list_any-map}
use Rattle.xod_play.proofs.FollowLemmas.{given-append, given-disturbed, given-own}
use Rattle.xod_play.proofs.FrontLemmas.{front-made, no-stop, no-turn, turn-is}

-- ---- steps that are no stops

unstopped : (test : Cause → Bool) (made : Step) (asked : SharedStep) → turned_of made ≡ turn_of asked → is_met test made ≡ false
unstopped test (step.Begin mode) asked kind = refl
unstopped test step.Revert asked kind = refl
unstopped test (step.Flush changes version) asked kind = refl
unstopped test step.End asked kind = refl
unstopped test step.Sync asked kind = refl
unstopped test (step.Stop line why origin) asked kind = absurd (false≢true (not_stop asked ∙ ap is_stop (sym kind)))
  where
    not_stop : (a : SharedStep) → false ≡ is_stop (turn_of a)
    not_stop (shared.Begin mode) = refl
    not_stop shared.Flush = refl
    not_stop shared.Revert = refl
    not_stop shared.End = refl
    not_stop shared.Sync = refl

whole_step : (made : Step) (asked : SharedStep) → turned_of made ≡ turn_of asked → without_origin made ≡ made
whole_step (step.Begin mode) asked kind = refl
whole_step step.Revert asked kind = refl
whole_step (step.Flush changes version) asked kind = refl
whole_step step.End asked kind = refl
whole_step step.Sync asked kind = refl
whole_step (step.Stop line why origin) asked kind = absurd (false≢true (sym (unstopped (λ c. true) (step.Stop line why Run) asked kind)))

-- a flush that was taken is no stop
flushes_unmet : (test : Cause → Bool) (comes : Next) (steps : List Step) → IsFlushAlone comes steps → list_any (is_met test) steps ≡ false
flushes_unmet test comes [] is = refl
flushes_unmet test comes (made ∷ []) is = ap (λ b. b || false) (unstopped test made shared.Flush is.1)
flushes_unmet test comes (made ∷ another ∷ more) is = absurd is

-- a flush that was taken, and a stop behind it
stopped_played : (comes : Next) (wanted : Turned) (flushed : List Step) (stop : Step) → is_turn comes wanted ≡ true → is_met (λ why. true) stop ≡ true → IsFlushAlone comes flushed → IsPlayedAs false wanted (flushed ++ stop ∷ [])
stopped_played comes wanted [] stop turns stops is = inr stops
stopped_played comes wanted (made ∷ []) stop turns stops is =
    (record { kind = is.1 ∙ turn-is shared.Flush wanted (subst (λ n. is_turn n wanted ≡ true) is.0 turns); calm = unstopped (λ why. true) made shared.Flush is.1 }, stops)
stopped_played comes wanted (made ∷ another ∷ more) stop turns stops is = absurd is

-- ---- causes

-- what is behind a stop that this run met, by its cause
record HasCause (space : SpaceView) (why : Cause) : Type 0 where
  broken : is_broken why ≡ true → IsTrue space.is_broken
  damaged : is_damage why ≡ true → space.tells ≡ false
  spent : is_spent why ≡ true → IsTrue space.is_last

unasked : (space : SpaceView) (why : Cause) → is_broken why ≡ false → is_damage why ≡ false → is_spent why ≡ false → HasCause space why
unasked space why b d s = record { broken = λ e. absurd (false≢true (sym b ∙ e)); damaged = λ e. absurd (false≢true (sym d ∙ e)); spent = λ e. absurd (false≢true (sym s ∙ e)) }

module _ (old new : SpaceView) (keeps : KeepsSpace old new) where
  -- a statement that was not answered
  met_cause : (why : Cause) (count : ℕ) → IsMetBy old.tells count why → HasCause new why
  met_cause cause.Device count met = unasked new cause.Device refl refl refl
  met_cause cause.Broken count met = absurd met
  met_cause cause.Damaged count met = record { broken = λ e. absurd (false≢true e); damaged = λ e. keeps.tells_same ∙ met; spent = λ e. absurd (false≢true e) }
  met_cause cause.Spent count met = absurd met
  met_cause cause.Memory count met = unasked new cause.Memory refl refl refl

  -- a step that was refused
  refused_cause : (why : Cause) (early late : ℕ) (asked : SharedStep) → IsReason old new early late asked why → HasCause new why
  refused_cause cause.Device early late asked why = unasked new cause.Device refl refl refl
  refused_cause cause.Broken early late asked why = record { broken = λ e. keeps.stays_broken why; damaged = λ e. absurd (false≢true e); spent = λ e. absurd (false≢true e) }
  refused_cause cause.Damaged early late asked why = record { broken = λ e. absurd (false≢true e); damaged = λ e. keeps.tells_same ∙ why; spent = λ e. absurd (false≢true e) }
  refused_cause cause.Spent early late asked why = record { broken = λ e. absurd (false≢true e); damaged = λ e. absurd (false≢true e); spent = λ e. why.1 }
  refused_cause cause.Memory early late asked why = unasked new cause.Memory refl refl refl

-- ---- a session that stopped

over_fresh : (course : CourseView) → IsCourse course → course.place.stopped ≡ true → answered_count course ≡ 0
over_fresh course is stopped = is.closed (is.over stopped)

-- what stands in a stop that a session does next
abbrev cause_in : Next → Cause
cause_in (next.Stop line why) = why
cause_in other = cause.Memory

abbrev pub is_next_stop : Next → Bool
is_next_stop (next.Stop line why) = true
is_next_stop other = false

unstopped_next : (asked : SharedStep) → is_next_stop (next_step asked) ≡ false
unstopped_next (shared.Begin mode) = refl
unstopped_next shared.Flush = refl
unstopped_next shared.Revert = refl
unstopped_next shared.End = refl
unstopped_next shared.Sync = refl

-- a stop that comes next was met
met_next : (stopped : Bool) (front : Option (ℕ × SharedStep)) (met : Option Halt) (line : ℕ) (why : Cause) → cond stopped next.Finished (next_with front met) ≡ next.Stop line why → (halt : Halt) × (met ≡ Some halt) × (halt.cause ≡ why)
met_next true front met line why is = absurd (false≢true (ap is_next_stop is))
met_next false None met line why is = absurd (false≢true (ap is_next_stop is))
met_next false (Some front) None line why is = absurd (false≢true (sym (unstopped_next front.1) ∙ ap is_next_stop is))
met_next false (Some front) (Some halt) line why is = (halt, refl, ap cause_in is)

module _ {Open : Type 0} (tells : Open → Bool) (txn : Open → OpenTxn) (faults : Open → ℕ) where
  module _ (old new : SpaceView) (keeps : KeepsSpace old new) (before later : Player Open) (wanted : Turned) (plays : Plays tells txn faults old before.session) (same : IsSamePlayer before later) (plays_later : Plays tells txn faults new later.session) (gave : before.gave_up ≡ false)
      (calm : has_given_up old.journal before.session.actor ≡ false) where
    -- whether it has given up behind some steps
    given_now : (steps : List Step) → new.journal ≡ old.journal ++ map (entry_of before.session.actor) steps → has_given_up new.journal later.session.actor ≡ list_any (is_met (λ why. true)) steps
    given_now steps grown =
        (λ i. has_given_up (grown i) (same.session.actor i)) ∙ given-append old.journal (map (entry_of before.session.actor) steps) before.session.actor
        ∙ (λ i. calm i || given-own before.session.actor steps i)

    -- the next shared step was taken
    pub took-stepped : later.gave_up ≡ false → HasStepped old new before.session later.session → is_turn (next_of before.session) wanted ≡ true → Took tells txn faults old new before later wanted
    took-stepped going came turns =
        let kind = came.kind ∙ turn-is came.asked wanted (subst (λ n. is_turn n wanted ≡ true) came.comes turns) in
        let unmet : (test : Cause → Bool) → list_any (is_met test) (came.taken ∷ []) ≡ false = λ test. ap (λ b. b || false) (unstopped test came.taken came.asked came.kind) in
        record {
          same = same;
          sits = record { part = record { plays = plays_later; gave = going ∙ sym (given_now (came.taken ∷ []) came.entry ∙ unmet (λ why. true)) }; fresh = came.fresh };
          steps = came.taken ∷ [];
          grown = came.entry;
          exact = λ none. record { made = came.taken; one = refl; kind = kind; whole = whole_step came.taken came.asked came.kind };
          played = subst (λ g. IsPlayedAs g wanted (came.taken ∷ [])) (sym gave) (inl (record { kind = kind; calm = unstopped (λ why. true) came.taken came.asked came.kind }));
          broken = λ e. absurd (false≢true (sym (unmet is_broken) ∙ e));
          damaged = λ e. absurd (false≢true (sym (unmet is_damage) ∙ e));
          spent = λ e. absurd (false≢true (sym (unmet is_spent) ∙ e));
        }

    -- this run met a stop
    pub took-stopped : (line : ℕ) (why : Cause) → later.gave_up ≡ true → HasStopped faults old new before.session later.session line why → is_turn (next_of before.session) wanted ≡ true → Took tells txn faults old new before later wanted
    took-stopped line why gave_later came turns =
        let stop : Step = step.Stop line why Run in
        let steps : List Step = came.flushed ++ stop ∷ [] in
        let met : (test : Cause → Bool) → list_any (is_met test) steps ≡ test why = λ test.
        list_any-append (is_met test) came.flushed (stop ∷ []) ∙ ap (λ b. b || (test why || false)) (flushes_unmet test (next_of before.session) came.flushed came.flushes) ∙ either_false (test why) in
        let disturbed : is_disturbed new.journal ≡ true =
        ap is_disturbed came.entries ∙ list_any-append (λ (e : JournalEntry). is_met (λ c. true) e.step) old.journal (map (entry_of before.session.actor) steps)
        ∙ ap (λ b. is_disturbed old.journal || b) (list_any-map (λ (e : JournalEntry). is_met (λ c. true) e.step) (entry_of before.session.actor) steps ∙ met (λ c. true)) ∙ either_true (is_disturbed old.journal) in
        let facts = because came.why in
        record {
          same = same;
          sits = record { part = record { plays = plays_later; gave = gave_later ∙ sym (given_now steps came.entries ∙ met (λ c. true)) }; fresh = over_fresh later.session.course plays_later.course came.stopped };
          steps = steps;
          grown = came.entries;
          exact = λ none. absurd (false≢true (sym none ∙ disturbed));
          played = subst (λ g. IsPlayedAs g wanted steps) (sym gave) (stopped_played (next_of before.session) wanted came.flushed stop turns refl came.flushes);
          broken = λ e. facts.broken (sym (met is_broken) ∙ e);
          damaged = λ e. facts.damaged (sym (met is_damage) ∙ e);
          spent = λ e. facts.spent (sym (met is_spent) ∙ e);
        }
      where
        either_false : (b : Bool) → (b || false) ≡ b
        either_false true = refl
        either_false false = refl

        because : (next_of before.session ≡ next.Stop line why) ⊎ IsRefused faults old new before.session line why → HasCause new why
        because (inl comes) =
            let m = met_next before.session.course.place.stopped (front_of before.session.course) before.session.met line why comes in
            met_cause old new keeps why (faults_in faults before.session.txn) (subst (IsMetBy old.tells (faults_in faults before.session.txn)) m.2 (plays.met m.0 m.1).1)
        because (inr refused) = refused_cause old new keeps why (faults_in faults before.session.txn) (faults_in faults refused.back) refused.asked refused.why

    -- a stop of the order was taken
    pub took-halted : (line : ℕ) (why : Cause) → later.gave_up ≡ false → Halts old new before.session later.session (step.Stop line why Order) → wanted ≡ turn.Stop line why → Took tells txn faults old new before later wanted
    took-halted line why going came is = record {
      same = same;
      sits = record { part = record { plays = plays_later; gave = going ∙ sym (given_now (step.Stop line why Order ∷ []) came.entry) }; fresh = over_fresh later.session.course plays_later.course came.stopped };
      steps = step.Stop line why Order ∷ [];
      grown = came.entry;
      exact = λ none. record { made = step.Stop line why Order; one = refl; kind = sym is; whole = refl };
      played = subst (λ g. IsPlayedAs g wanted (step.Stop line why Order ∷ [])) (sym gave) (inl (record { kind = sym is; calm = refl }));
      broken = λ e. absurd (false≢true e);
      damaged = λ e. absurd (false≢true e);
      spent = λ e. absurd (false≢true e);
    }

  -- a turn that is passed over
  pub took-passed : (space : SpaceView) (player : Player Open) (wanted : Turned) → Sits tells txn faults space player → player.gave_up ≡ true → Took tells txn faults space space player player wanted
  took-passed space player wanted sits gave = record {
    same = record { name = refl; session = record { actor = refl; script = refl } };
    sits = sits;
    steps = [];
    grown = sym (append-nil space.journal);
    exact = λ none. absurd (false≢true (sym none ∙ given-disturbed space.journal player.session.actor (sym sits.part.gave ∙ gave)));
    played = subst (λ g. IsPlayedAs g wanted []) (sym gave) refl;
    broken = λ e. absurd (false≢true e);
    damaged = λ e. absurd (false≢true e);
    spent = λ e. absurd (false≢true e);
  }

-- ---- turns that can't be taken

abbrev mode_in : Next → Option Mode
mode_in (next.Begin mode) = Some mode
mode_in other = None

same_begin : (asked : SharedStep) (mode : Mode) → mode_in (next_step asked) ≡ Some mode → asked ≡ shared.Begin mode
same_begin (shared.Begin given) mode is = ap (λ m. shared.Begin m) (same_Some _ _ is)
same_begin shared.Flush mode is = absurd (none-some mode is)
same_begin shared.Revert mode is = absurd (none-some mode is)
same_begin shared.End mode is = absurd (none-some mode is)
same_begin shared.Sync mode is = absurd (none-some mode is)

module _ {Open : Type 0} (tells : Open → Bool) (txn : Open → OpenTxn) (faults : Open → ℕ) where
  module _ (space : SpaceView) (player : Player Open) (plays : Plays tells txn faults space player.session) (gave : player.gave_up ≡ false) where
    come_is : (t : IsTrue space.tells) (come : SessionState) (now : Standing) → HasCome space player come now → (plays.known t).come ≡ come
    come_is t come now has = same_Some _ _ (sym (plays.known t).is ∙ has.is)

    -- the session does something else next
    pub cant-turn : (new : SpaceView) (later : Player Open) (wanted : Turned) → IsSamePlayer player later → TakesPart tells txn faults new later → new.journal ≡ space.journal → is_stop wanted ≡ false → is_turn (next_of player.session) wanted ≡ false
        → CantTake tells txn faults space new player later wanted
    cant-turn new later wanted same part journal stop other = record {
      same = same;
      part = part;
      journal = journal;
      goes = gave;
      none = λ t come now has. let at = plays.known t in
          subst (λ s. (made : Step) → step_made (newest_in now) s wanted ≡ Some made → is_taken now player.session.actor s made ≡ false) (come_is t come now has)
          (no-turn space.start space.journal player.session.actor player.session.course plays.course _ _ _ at player.session.met now wanted stop other);
    }

    -- it can't stop at the line
    pub cant-stop : (new : SpaceView) (later : Player Open) (line : ℕ) (why : Cause) → IsSamePlayer player later → TakesPart tells txn faults new later → new.journal ≡ space.journal → can_halt_at player.session.course line ≡ false
        → CantTake tells txn faults space new player later (turn.Stop line why)
    cant-stop new later line why same part journal cant = record {
      same = same;
      part = part;
      journal = journal;
      goes = gave;
      none = λ t come now has made made_is. let at = plays.known t in
          subst (λ s. is_taken now player.session.actor s made ≡ false) (come_is t come now has)
          (subst (λ m. is_taken now player.session.actor at.come m ≡ false) (same_Some _ _ made_is)
          (no-stop space.start space.journal player.session.actor player.session.course plays.course _ _ _ at now line why cant));
    }

    -- another transaction is in the way of its begin
    unbegun : (now : Standing) (mode : Mode) (other : ℕ) → after (Some (opening space.start)) space.journal ≡ Some now → busy_of space.start space.journal mode ≡ Some other → after_step now player.session.actor (step.Begin mode) ≡ None
    unfolding after_step booked
    unbegun now mode other stands busy =
        let held : holder now.books mode ≡ Some other = sym (ap (option_and_then (λ books. holder books mode)) (after-booked (opening space.start) now space.journal stands)) ∙ busy in
        ap (option_map (moved now player.session.actor (step.Begin mode))) (by (has_stopped now.books player.session.actor) (get now.books.txns player.session.actor) held)
      where
        by : (b : Bool) (held : Option Pinned) → holder now.books mode ≡ Some other → cond b None (booked_in now.books player.session.actor (step.Begin mode) held) ≡ None
        by true held is = refl
        by false None is = ap (λ o. cond (is_some o) None (Some (pinned now.books player.session.actor (record { mode = mode; base = now.books.commit })))) is
        by false (Some held) is = refl

    pub cant-begin : (new : SpaceView) (later : Player Open) (wanted : Turned) (other : ℕ) → IsSamePlayer player later → Plays tells txn faults new later.session → later.gave_up ≡ false → has_given_up space.journal player.session.actor ≡ false
        → IsBusy space new player.session later.session other → is_turn (next_of player.session) wanted ≡ true → CantTake tells txn faults space new player later wanted
    cant-begin new later wanted other same plays_later going calm busy turns = record {
      same = same;
      part = record { plays = plays_later; gave = going ∙ sym ((λ i. has_given_up (busy.journal i) (same.session.actor i)) ∙ calm) };
      journal = busy.journal;
      goes = gave;
      none = λ t come now has made made_is. let at = plays.known t in
          let begins : turn.Begin ≡ wanted = turn-is (shared.Begin busy.mode) wanted (subst (λ n. is_turn n wanted ≡ true) busy.comes turns) in
          let front = begin_front player.session.course.place.stopped (front_of player.session.course) player.session.met refl refl busy.comes in
          let made_at : step_made (newest_in now) at.come turn.Begin ≡ Some (step.Begin busy.mode) =
          front-made space.start space.journal player.session.actor player.session.course plays.course _ _ _ at (newest_in now) turn.Begin front.0 (shared.Begin busy.mode) front.2 refl front.1 in
          let made_same : ◌≡◌ {A = Step} (step.Begin busy.mode) made = same_Some _ _ (sym made_at ∙ (λ i. step_made (newest_in now) (come_is t come now has i) (begins i)) ∙ made_is) in
          subst (λ m. is_taken now player.session.actor come m ≡ false) made_same
          (ap (λ o. is_some o && is_some (session_step (newest_in now) come (step.Begin busy.mode))) (unbegun now busy.mode other has.stands busy.busy));
    }
      where
        begin_front : (stopped : Bool) (front : Option (ℕ × SharedStep)) (met : Option Halt) → player.session.course.place.stopped ≡ stopped → front_of player.session.course ≡ front → cond stopped next.Finished (next_with front met) ≡ next.Begin busy.mode
            → (line : ℕ) × (front_of player.session.course ≡ Some (line, shared.Begin busy.mode)) × (player.session.course.place.stopped ≡ false)
        begin_front true front met s f is = absurd (none-some _ (ap mode_in is))
        begin_front false None met s f is = absurd (none-some _ (ap mode_in is))
        begin_front false (Some front) None s f is = (front.0, f ∙ ap (λ a. Some (front.0, a)) (same_begin front.1 busy.mode (ap mode_in is)), s)
        begin_front false (Some front) (Some halt) s f is = absurd (none-some _ (ap mode_in is))

  -- ---- a player whose private statements were answered

  module _ (old new : SpaceView) (first before later : Player Open) (wanted : Turned) (same : IsSamePlayer first before) (gave_same : before.gave_up ≡ first.gave_up) where
    all_same : IsSamePlayer before later → IsSamePlayer first later
    all_same more = record {
      name = more.name ∙ same.name;
      session = record { actor = more.session.actor ∙ same.session.actor; script = more.session.script ∙ same.session.script };
    }

    pub took-prepared : Took tells txn faults old new before later wanted → Took tells txn faults old new first later wanted
    took-prepared took = record {
      same = all_same took.same;
      sits = took.sits;
      steps = took.steps;
      grown = took.grown ∙ ap (λ a. old.journal ++ map (entry_of a) took.steps) same.session.actor;
      exact = took.exact;
      played = subst (λ g. IsPlayedAs g wanted took.steps) gave_same took.played;
      broken = took.broken;
      damaged = took.damaged;
      spent = took.spent;
    }

    pub cant-prepared : CantTake tells txn faults old new before later wanted → CantTake tells txn faults old new first later wanted
    cant-prepared cant = record {
      same = all_same cant.same;
      part = cant.part;
      journal = cant.journal;
      goes = sym gave_same ∙ cant.goes;
      none = λ t come now has made made_is.
          subst (λ a. is_taken now a come made ≡ false) same.session.actor
          (cant.none t come now (record { is = (λ i. session_after old.start (same.session.actor i) (Some (opened (same.session.script i))) old.journal) ∙ has.is; stands = has.stands }) made made_is);
    }

    pub turns-prepared : (was_taken : Bool) → Turns tells txn faults old new before later wanted was_taken → Turns tells txn faults old new first later wanted was_taken
    turns-prepared true took = took-prepared took
    turns-prepared false cant = cant-prepared cant

-- ---- a stop of the order

-- Before a stop of the order is taken: the private statements before its line were answered, and it can be taken.
pub record IsHaltReady {Open : Type 0} (session : Session Open) (line : ℕ) : Type 0 where
  pub can : can_halt_at session.course line ≡ true
  pub answered : private_before line session.course.since ≡ answered_count session.course

pub no-next-stop : (one : Next) → ((line : ℕ) (why : Cause) → one ≡ next.Stop line why → ⊥) → is_next_stop one ≡ false
no-next-stop (next.Begin mode) apart = refl
no-next-stop next.Flush apart = refl
no-next-stop next.Revert apart = refl
no-next-stop next.End apart = refl
no-next-stop next.Sync apart = refl
no-next-stop next.Finished apart = refl
no-next-stop (next.Stop line why) apart = absurd (apart line why refl)

pub halt-ready : {Open : Type 0} (old new : Session Open) (line : ℕ) → IsCourse old.course → IsCourse new.course → IsFresh old → can_halt_at old.course line ≡ true → PreparesTo (Some line) old new
    → is_next_stop (next_of new) ≡ false → IsHaltReady new line
halt-ready old new line course later fresh can prepares other =
    let going : old.course.place.stopped ≡ false = not_stopped old.course.place.stopped can in
    record {
      can = ap (λ (p : Place). not p.stopped && can_stop p line) prepares.since ∙ can;
      answered = by going (prepares.stopped ∙ going) (front_of new.course) refl new.met refl (sym (ap (λ b. is_next_stop (cond b next.Finished (next_with (front_of new.course) new.met))) (prepares.stopped ∙ going)) ∙ other);
    }
  where
    not_stopped : (b : Bool) → (not b && can_stop (since_place old.course) line) ≡ true → b ≡ false
    not_stopped true e = absurd (false≢true e)
    not_stopped false e = refl

    by : old.course.place.stopped ≡ false → new.course.place.stopped ≡ false → (front : Option (ℕ × SharedStep)) → front_of new.course ≡ front → (met : Option Halt) → new.met ≡ met → is_next_stop (next_with front met) ≡ false
        → private_before line new.course.since ≡ answered_count new.course
    by going still None none met m e =
        let over = ended new.course later still none in
        let closed = later.closed over.1 in
        let empty : new.course.since ≡ [] = sym (later.rest ∙ ap (λ n. drop n new.course.since) closed) ∙ over.0 in
        ap (private_before line) empty ∙ sym closed
    by going still (Some front) f None m e = prepared-answered line old new course fresh going m prepares
    by going still (Some front) f (Some halt) m e = absurd (false≢true (sym e))
