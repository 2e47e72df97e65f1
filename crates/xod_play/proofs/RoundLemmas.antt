-- What an item comes to.
use Rattle.std.proofs.Common.{subst, ◌≡◌, ℕ, ◌+◌, Bool, true, false, cond, List, [], ◌∷◌, ◌++◌, get_or, map, set, Option, Some, None, refl, sym, ap, ◌∙◌, IsTrue, append-nil}
use Rattle.std.specs.Prelude.{◌&&◌, ◌||◌, option_and_then, is_some}
use Rattle.std.specs.List.{list_all, list_any}
use Rattle.std.proofs.lemmas.Option.{none-some, same_Some}
use Rattle.std.proofs.lemmas.Bool.{false≢true}
use Rattle.std.proofs.lemmas.List.Folds.{list_all-append, list_any-append}
use Rattle.xod_base.specs.declared.causes.Cause.{Cause}
use Rattle.xod_base.specs.Values.{same_bytes}
use Rattle.xod_lang.specs.declared.script.Item.{Item}
use Rattle.xod_lang.specs.declared.script.Item.TheVariants.{Turn}
use Rattle.xod_lang.specs.declared.script.Turned.{Turned}
use Rattle.xod_journal.specs.declared.journal.JournalEntry.{JournalEntry}
use Rattle.xod_journal.specs.declared.journal.Step.{Step}
use Rattle.xod_journal.specs.Laws.{SameIsEqual}
use Rattle.xod_journal.specs.Spaces.{IsSpace, KeepsSpace, SpaceView}
use Rattle.xod_journal.specs.Standing.{Standing, after, after_step, opening}
use Rattle.xod_journal.specs.Txns.{OpenTxn}
use Rattle.xod_journal.proofs.CallerLemmas.{after-newest}
use Rattle.xod_session.specs.Laws.{IsPlayed, ItemsMakeAJournal, SessionsMakeAWorld, is_players}
use Rattle.xod_session.specs.Sessions.{session_after, session_step}
use Rattle.xod_session.specs.States.{SessionState, opened}
use Rattle.xod_session.specs.Transcripts.{names_of, turned_of}
use Rattle.xod_session.specs.World.{Played, Player as WorldPlayer, World, actor_named, all_taken, entry_of, newest_in, session_of, taken, world_after, world_step}
use Rattle.xod_session.proofs.CallerLemmas.{session_after-entered}
use Rattle.xod_session.proofs.WorldLemmas.{players_step-names, world_after-none, world_stepped}
use Rattle.xod_play.specs.declared.player.Player.{Player}
use Rattle.xod_play.specs.Follows.{Follows, has_given_up_there, number_named}
use Rattle.xod_play.specs.Places.{place_named}
use Rattle.xod_play.specs.Players.{CantTake, IsTurn, TakesPart, Took, Turns, is_taken}
use Rattle.xod_play.specs.Rounds.{AllSit, AllTakePart, CantTakeItem, HasPlayed, IsStage, TurnsItem, begun, start_of, unpassed}
use Rattle.xod_play.specs.Stops.{has_met, is_broken, is_damage, is_disturbed, is_met, is_spent}
use Rattle.xod_play.proofs.EntryLemmas.{list_any-map}
use Rattle.xod_play.proofs.FollowLemmas.{turn-follows}
use Rattle.xod_play.proofs.OrderLemmas.{all_taken-push, grows, taken-again, unbooked, unnamed-untaken, unstepped, untaken}
use Rattle.xod_play.proofs.SeatedLemmas.{IsNamed, Stands, fresh-behind, legal-run, named-at, part-behind, scripts-behind, unnamed}

-- ---- names

by_names : (k : ℕ) (players : List WorldPlayer) (name : List ℕ) → actor_named k players name ≡ number_named k (map (λ (p : WorldPlayer). p.name) players) name
by_names k [] name = refl
by_names k (player ∷ more) name = ap (λ o. cond (same_bytes player.name name) (Some k) o) (by_names (k + 1) more name)

same_names : (k : ℕ) (players others : List WorldPlayer) (name : List ℕ) → map (λ (p : WorldPlayer). p.name) players ≡ map (λ (p : WorldPlayer). p.name) others → actor_named k players name ≡ actor_named k others name
same_names k players others name is = by_names k players name ∙ ap (λ l. number_named k l name) is ∙ sym (by_names k others name)

-- the names of a world stay
pub names-stay : (start world : World) (journal : List JournalEntry) → world_after (Some start) journal ≡ Some world → names_of world ≡ names_of start
names-stay start world [] e = ap names_of (sym (same_Some _ _ e))
names-stay start world (entry ∷ more) e =
    elim (world_step start entry) as (λ o. world_step start entry ≡ o → world_after o more ≡ Some world → names_of world ≡ names_of start) [
      | None ↦ λ s e. absurd (none-some world (sym (world_after-none more) ∙ e))
      | Some next ↦ λ s e. names-stay next world more e ∙ players_step-names (newest_in start.standing) 1 start.players next.players entry (world_stepped start next entry s).players
    ] refl e

-- ---- an item was taken

-- a player, by its name among all
pub record IsThere {Open : Type 0} (start : World) (name : List ℕ) (player : Player Open) : Type 0 where
  pub named : actor_named 1 start.players name ≡ Some player.session.actor
  pub there : session_of 1 start.players player.session.actor ≡ Some (opened player.session.course.script)

own_steps : (start : World) (actor : ℕ) (steps : List Step) → is_some (session_of 1 start.players actor) ≡ true → list_all (is_players start) (map (entry_of actor) steps) ≡ true
own_steps start actor [] is = refl
own_steps start actor (made ∷ more) is = λ i. is i && own_steps start actor more is i

no_more : (b c : Bool) → (b || c) ≡ false → b ≡ false
no_more true c e = absurd (false≢true (sym e))
no_more false c e = refl

one_of : (b c : Bool) → (b || c) ≡ true → {A : Type 0} → (b ≡ true → A) → (c ≡ true → A) → A
one_of true c e f g = f refl
one_of false c e f g = g e

module _ {Open : Type 0} (tells : Open → Bool) (txn : Open → OpenTxn) (faults : Open → ℕ) where
  module _ (old : SpaceView) (players : List (Player Open)) (played_law : ItemsMakeAJournal) (name : List ℕ) (player : Player Open) (is_there : IsThere (start_of old players) name player) (part : TakesPart tells txn faults old player) where
    -- a turn that can't be taken
    module _ (t : IsTrue old.tells) (stood : Stands old players) where
      abbrev here : SessionState
      here = (part.plays.known t).come

      there_here : session_of 1 stood.legal.world.players player.session.actor ≡ Some here
      there_here = stood.legal.sessions player.session.actor ∙ ap (λ o. session_after old.start player.session.actor o old.journal) is_there.there ∙ (part.plays.known t).is

      stands_here : after (Some (opening old.start)) old.journal ≡ Some stood.legal.world.standing
      stands_here = stood.stands ∙ ap (λ s. Some s) (sym stood.legal.standing)

      pub cant-item : (new : SpaceView) (later : Player Open) (wanted : Turned) → CantTake tells txn faults old new player later wanted → taken (record { world = stood.legal.world; journal = old.journal }) (Turn name wanted) ≡ None
      cant-item new later wanted cant =
          untaken (record { world = stood.legal.world; journal = old.journal }) name wanted player.session.actor here
          (same_names 1 stood.legal.world.players (start_of old players).players name stood.legal.names ∙ is_there.named) there_here
          (λ made made_is. apart_here made (cant.none t here stood.legal.world.standing (record { is = (part.plays.known t).is; stands = stands_here }) made made_is))
        where
          apart_here : (made : Step) → is_taken stood.legal.world.standing player.session.actor here made ≡ false → world_step stood.legal.world (entry_of player.session.actor made) ≡ None
          apart_here made e = by (after_step stood.legal.world.standing player.session.actor made) refl (session_step (newest_in stood.legal.world.standing) here made) refl e
            where
              by : (a : Option Standing) → after_step stood.legal.world.standing player.session.actor made ≡ a → (s : Option SessionState) → session_step (newest_in stood.legal.world.standing) here made ≡ s → (is_some a && is_some s) ≡ false
                  → world_step stood.legal.world (entry_of player.session.actor made) ≡ None
              by None a s t e = unbooked stood.legal.world (entry_of player.session.actor made) a
              by (Some x) a None t e = unstepped stood.legal.world (entry_of player.session.actor made) here there_here t
              by (Some x) a (Some y) t e = absurd (false≢true (sym e))

    -- where all items were taken that made the journal
    module _ (t : IsTrue old.tells) (now : Played) (items : List Item) (taken_is : all_taken (Some (begun (start_of old players))) items ≡ Some now) (journal_is : now.journal ≡ old.journal) where
      all : IsPlayed (start_of old players) items now
      all = played_law (start_of old players) items now taken_is

      named_now : actor_named 1 now.world.players name ≡ Some player.session.actor
      named_now = same_names 1 now.world.players (start_of old players).players name (names-stay (start_of old players) now.world now.journal all.world) ∙ is_there.named

      abbrev come : SessionState
      come = (part.plays.known t).come

      come_now : session_after old.start player.session.actor (Some (opened player.session.course.script)) now.journal ≡ Some come
      come_now = ap (session_after old.start player.session.actor (Some (opened player.session.course.script))) journal_is ∙ (part.plays.known t).is

      there_now : session_of 1 now.world.players player.session.actor ≡ Some come
      there_now = sym (all.sessions player.session.actor) ∙ ap (λ o. session_after old.start player.session.actor o now.journal) is_there.there ∙ come_now

      standing_now : after (Some (opening old.start)) old.journal ≡ Some now.world.standing
      standing_now = ap (after (Some (opening old.start))) (sym journal_is) ∙ all.standing

      -- a turn that was taken
      pub took-item : SameIsEqual → (new : SpaceView) (later : Player Open) (wanted : Turned) → IsTrue new.tells → IsSpace new → KeepsSpace old new → (took : Took tells txn faults old new player later wanted) → IsTurn wanted took.steps
          → HasPlayed (start_of old players) (items ++ Turn name wanted ∷ []) new.journal
      took-item same new later wanted told lawful keeps took is_turn =
          let entry : JournalEntry = entry_of player.session.actor is_turn.made in
          let grown : now.journal ++ entry ∷ [] ≡ new.journal = ap (λ j. j ++ entry ∷ []) journal_is ∙ ap (λ l. old.journal ++ map (entry_of player.session.actor) l) (sym is_turn.one) ∙ sym took.grown in
          let at = took.sits.part.plays.known told in
          let seen_script : session_after old.start player.session.actor (Some (opened player.session.course.script)) (now.journal ++ entry ∷ []) ≡ Some at.come =
          (λ i. session_after (sym keeps.start_same i) (sym took.same.session.actor i) (Some (opened (sym took.same.session.script i))) (grown i)) ∙ at.is in
          let seen : session_after old.start player.session.actor (session_of 1 (start_of old players).players player.session.actor) (now.journal ++ entry ∷ []) ≡ Some at.come =
          ap (λ o. session_after old.start player.session.actor o (now.journal ++ entry ∷ [])) is_there.there ∙ seen_script in
          let stands : is_some (after (Some (opening old.start)) (now.journal ++ entry ∷ [])) ≡ true =
          (λ i. is_some (after (Some (opening (sym keeps.start_same i))) (grown i))) ∙ lawful.stands told in
          let next = grows (start_of old players) now.world now.journal entry at.come all.world all.standing (all.sessions player.session.actor) stands seen in
          let stepped : session_step (newest_in now.world.standing) come is_turn.made ≡ Some at.come =
          ap (λ n. session_step n come is_turn.made) (sym (after-newest (opening old.start) now.world.standing now.journal all.standing))
          ∙ sym (session_after-entered old.start player.session.actor (Some (opened player.session.course.script)) now.journal come is_turn.made come_now) ∙ seen_script in
          let taken_now : taken now (Turn name (turned_of is_turn.made)) ≡ Some (record { world = next.0; journal = now.journal ++ entry ∷ [] }) =
          taken-again same now name entry come at.come next.0 named_now there_now stepped is_turn.whole next.1 in
          record {
            now = record { world = next.0; journal = now.journal ++ entry ∷ [] };
            taken_is = all_taken-push (Some (begun (start_of old players))) items (Turn name wanted) ∙ ap (option_and_then (λ here. taken here (Turn name wanted))) taken_is
                ∙ ap (λ t. taken now (Turn name t)) (sym is_turn.kind) ∙ taken_now;
            journal_is = grown;
          }

    -- behind the item
    pub took-stage : SameIsEqual → (new : SpaceView) (later : Player Open) (wanted : Turned) → IsSpace new → KeepsSpace old new → Took tells txn faults old new player later wanted
        → (items : List Item) → IsStage old (start_of old players) items → IsStage new (start_of old players) (items ++ Turn name wanted ∷ [])
    took-stage same new later wanted lawful keeps took items stage =
        let entries = map (entry_of player.session.actor) took.steps in
        let names = names_of (start_of old players) in
        let named : number_named 1 names name ≡ Some player.session.actor = sym (by_names 1 (start_of old players).players name) ∙ is_there.named in
        record {
          own = ap (list_all (is_players (start_of old players))) took.grown ∙ list_all-append (is_players (start_of old players)) old.journal entries
              ∙ (λ i. stage.own i && own_steps (start_of old players) player.session.actor took.steps (ap is_some is_there.there) i);
          follows = λ rest. subst (λ j. Follows names ((items ++ Turn name wanted ∷ []) ++ rest) j (unpassed names j rest)) (sym took.grown)
              (turn-follows names old.journal player.session.actor name named wanted items stage.follows player.gave_up (sym part.gave) took.steps took.played rest);
          causes = record {
            broken = λ e. met is_broken e (λ before. keeps.stays_broken (stage.causes.broken before)) took.broken;
            damaged = λ e. met is_damage e (λ before. keeps.tells_same ∙ stage.causes.damaged before) took.damaged;
            spent = λ e. met is_spent e (λ before. keeps.stays_last (stage.causes.spent before)) took.spent;
          };
          played = λ told calm.
              let t : IsTrue old.tells = subst IsTrue keeps.tells_same told in
              let before : is_disturbed old.journal ≡ false = no_more (is_disturbed old.journal) (is_disturbed entries) (sym (split (λ why. true)) ∙ calm) in
              let played = stage.played t before in
              took-item t played.now items played.taken_is played.journal_is same new later wanted told lawful keeps took (took.exact calm);
        }
      where
        split : (test : Cause → Bool) → has_met test new.journal ≡ (has_met test old.journal || has_met test (map (entry_of player.session.actor) took.steps))
        split test = ap (has_met test) took.grown ∙ list_any-append (λ (e : JournalEntry). is_met test e.step) old.journal (map (entry_of player.session.actor) took.steps)

        -- what this run met, it met before or in this turn
        met : (test : Cause → Bool) → has_met test new.journal ≡ true → {A : Type 0} → (has_met test old.journal ≡ true → A) → (list_any (is_met test) took.steps ≡ true → A) → A
        met test e f g = one_of (has_met test old.journal) (has_met test (map (entry_of player.session.actor) took.steps)) (sym (split test) ∙ e) f
            (λ there. g (sym (list_any-map (λ (e : JournalEntry). is_met test e.step) (entry_of player.session.actor) took.steps) ∙ there))

  -- ---- an item by the name of its session

  -- no player has the name
  pub unnamed-item : (space : SpaceView) (players : List (Player Open)) → AllTakePart tells txn faults 1 space players → (name : List ℕ) (wanted : Turned) → place_named players name ≡ None → CantTakeItem tells txn faults space space players players (Turn name wanted)
  unnamed-item space players part name wanted none = record {
    part = part;
    scripts = refl;
    journal = refl;
    goes = ap (has_given_up_there space.journal) (sym (by_names 1 (start_of space players).players name) ∙ unnamed 1 players name none);
    none = λ t own world is.
        unnamed-untaken (record { world = world; journal = space.journal }) name wanted
        (same_names 1 world.players (start_of space players).players name (names-stay (start_of space players) world space.journal is) ∙ unnamed 1 players name none);
  }

  -- the turn of the player with the name
  module _ (old new : SpaceView) (lawful_old : IsSpace old) (lawful : IsSpace new) (keeps : KeepsSpace old new) (law : SessionsMakeAWorld) (played_law : ItemsMakeAJournal) (same : SameIsEqual) (players : List (Player Open)) (sit : AllSit tells txn faults 1 old players)
      (name : List ℕ) (at : ℕ) (d : Player Open) (place_is : place_named players name ≡ Some at) where
    is_named : IsNamed tells txn faults 1 old players name at (get_or players at d)
    is_named = named-at tells txn faults 1 old players sit.part name at d place_is

    there : IsThere (start_of old players) name (get_or players at d)
    there = record {
      named = is_named.named ∙ ap (λ n. Some n) (sym is_named.seated.actor);
      there = ap (session_of 1 (start_of old players).players) is_named.seated.actor ∙ is_named.there;
    }

    pub turns-item : (later : Player Open) (wanted : Turned) (was_taken : Bool) → Turns tells txn faults old new (get_or players at d) later wanted was_taken → TurnsItem tells txn faults old new players (set players at later) (Turn name wanted) was_taken
    turns-item later wanted true took = record {
      sit = record {
        part = part-behind tells txn faults old new keeps lawful (get_or players at d).session.actor (record { steps = took.steps; grown = took.grown }) 1 players at later is_named.within sit.part is_named.seated.actor (record { actor = took.same.session.actor ∙ is_named.seated.actor; part = took.sits.part });
        fresh = fresh-behind players at later sit.fresh took.sits.fresh;
      };
      scripts = scripts-behind players at d later (λ i. record { name = took.same.name i; statements = took.same.session.script i });
      stage = took-stage old players played_law name (get_or players at d) there is_named.seated.part same new later wanted lawful keeps took;
    }
    turns-item later wanted false cant = record {
      part = part-behind tells txn faults old new keeps lawful (get_or players at d).session.actor (record { steps = []; grown = cant.journal ∙ sym (append-nil old.journal) }) 1 players at later is_named.within sit.part is_named.seated.actor (record { actor = cant.same.session.actor ∙ is_named.seated.actor; part = cant.part });
      scripts = scripts-behind players at d later (λ i. record { name = cant.same.name i; statements = cant.same.session.script i });
      journal = cant.journal;
      goes = ap (has_given_up_there old.journal) (sym (by_names 1 (start_of old players).players name) ∙ there.named) ∙ sym is_named.seated.part.gave ∙ cant.goes;
      none = λ t own world is.
          let stood = legal-run tells txn faults old players sit.part t lawful_old law own in
          subst (λ w. taken (record { world = w; journal = old.journal }) (Turn name wanted) ≡ None) (same_Some _ _ (sym stood.legal.is ∙ is))
          (cant-item old players played_law name (get_or players at d) there is_named.seated.part t stood new later wanted cant);
    }
