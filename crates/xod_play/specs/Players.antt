-- A session that plays over a space, turn by turn, and what one turn of it comes to.
use Rattle.std.specs.Prelude.{◌≡◌, ◌⊎◌, ℕ, Bool, true, false, IsTrue, List, [], ◌∷◌, ◌++◌, map, Some, is_some, ◌&&◌}
use Rattle.std.specs.List.{list_any}
use Rattle.xod_lang.specs.declared.script.SessionScript.{SessionScript}
use Rattle.xod_lang.specs.declared.script.Turned.{Turned}
use Rattle.xod_lang.specs.declared.script.Turned.TheVariants as turn
use Rattle.xod_journal.specs.declared.journal.Step.{Step}
use Rattle.xod_journal.specs.Spaces.{SpaceView}
use Rattle.xod_journal.specs.Standing.{Standing, after, after_step, opening}
use Rattle.xod_journal.specs.Txns.{OpenTxn}
use Rattle.xod_session.specs.declared.session.Next.{Next}
use Rattle.xod_session.specs.declared.session.Next.TheVariants as next
use Rattle.xod_session.specs.Calls.{IsFresh, IsSameSession}
use Rattle.xod_session.specs.Laws.{without_origin}
use Rattle.xod_session.specs.Seats.{Plays}
use Rattle.xod_session.specs.Sessions.{session_after, session_step}
use Rattle.xod_session.specs.States.{SessionState, opened}
use Rattle.xod_session.specs.Transcripts.{turned_of}
use Rattle.xod_session.specs.World.{entry_of, newest_in, step_made}
use Rattle.xod_play.specs.declared.player.Player.{Player}
use Rattle.xod_play.specs.Follows.{has_given_up}
use Rattle.xod_play.specs.Stops.{is_broken, is_damage, is_disturbed, is_met, is_spent}

-- ---- where a player is

-- A player takes part in a space: its session is where its script and the journal have come, or further by the private
-- statements that it has answered since. It gave up where this run met a stop of it.
pub record TakesPart {Open : Type 0} (tells : Open → Bool) (txn : Open → OpenTxn) (faults : Open → ℕ) (space : SpaceView) (player : Player Open) : Type 0 where
  pub plays : Plays tells txn faults space player.session
  pub gave : player.gave_up ≡ has_given_up space.journal player.session.actor

-- A player between turns: nothing was answered since the last shared step.
pub record Sits {Open : Type 0} (tells : Open → Bool) (txn : Open → OpenTxn) (faults : Open → ℕ) (space : SpaceView) (player : Player Open) : Type 0 where
  pub part : TakesPart tells txn faults space player
  pub fresh : IsFresh player.session

-- what no turn changes
pub record IsSamePlayer {Open : Type 0} (old new : Player Open) : Type 0 where
  pub name : new.name ≡ old.name
  pub session : IsSameSession old.session new.session

-- the player's script
abbrev pub script_in : {Open : Type 0} → Player Open → SessionScript
script_in player = record { name = player.name; statements = player.session.course.script }

-- ---- turns

-- whether what a session does next is a turn that is no stop, or the stop of a statement that it could not answer
abbrev pub is_turn : Next → Turned → Bool
is_turn (next.Begin mode) turn.Begin = true
is_turn next.Flush turn.Flush = true
is_turn next.Revert turn.Revert = true
is_turn next.End turn.End = true
is_turn next.Sync turn.Sync = true
is_turn (next.Stop line cause) other = true
is_turn one other = false

-- whether a session has stopped there, or is at the end of its script
abbrev pub is_done : Next → Bool
is_done next.Finished = true
is_done other = false

abbrev pub is_stop : Turned → Bool
is_stop (turn.Stop line cause) = true
is_stop other = false

-- one step, which is printed as the turn, and is what the turn makes
pub record IsTurn (wanted : Turned) (steps : List Step) : Type 0 where
  pub made : Step
  pub one : steps ≡ made ∷ []
  pub kind : turned_of made ≡ wanted
  pub whole : without_origin made ≡ made

-- a step that is printed as the turn, and no stop that this run met
pub record IsStepOf (wanted : Turned) (made : Step) : Type 0 where
  pub kind : turned_of made ≡ wanted
  pub calm : is_met (λ cause. true) made ≡ false

-- The steps of a turn: none where the player gave up before; else the one of the turn, with a stop behind it that this
-- run met, or such a stop alone.
abbrev pub IsPlayedAs : Bool → Turned → List Step → Type 0
IsPlayedAs true wanted steps = steps ≡ []
IsPlayedAs false wanted [] = ⊥
IsPlayedAs false wanted (made ∷ []) = IsStepOf wanted made ⊎ (is_met (λ cause. true) made ≡ true)
IsPlayedAs false wanted (made ∷ stop ∷ []) = IsStepOf wanted made × (is_met (λ cause. true) stop ≡ true)
IsPlayedAs false wanted (made ∷ stop ∷ another ∷ more) = ⊥

-- A turn was taken: the journal has steps of this player more. Where this run met no stop, that is the one step of the
-- turn. A stop that it met has its cause, whether or not rows are told.
pub record Took {Open : Type 0} (tells : Open → Bool) (txn : Open → OpenTxn) (faults : Open → ℕ) (old new : SpaceView) (before later : Player Open) (wanted : Turned) : Type 0 where
  pub same : IsSamePlayer before later
  pub sits : Sits tells txn faults new later
  pub steps : List Step
  pub grown : new.journal ≡ old.journal ++ map (entry_of before.session.actor) steps
  pub exact : is_disturbed new.journal ≡ false → IsTurn wanted steps
  pub played : IsPlayedAs before.gave_up wanted steps
  pub broken : list_any (is_met is_broken) steps ≡ true → IsTrue new.is_broken
  pub damaged : list_any (is_met is_damage) steps ≡ true → new.tells ≡ false
  pub spent : list_any (is_met is_spent) steps ≡ true → IsTrue new.is_last

-- whether a step is the next one of a session, and the journal can have it
abbrev pub is_taken : Standing → ℕ → SessionState → Step → Bool
is_taken now actor come made = is_some (after_step now actor made) && is_some (session_step (newest_in now) come made)

-- where a session has come, and where the journal stands
pub record HasCome {Open : Type 0} (space : SpaceView) (player : Player Open) (come : SessionState) (now : Standing) : Type 0 where
  pub is : session_after space.start player.session.actor (Some (opened player.session.course.script)) space.journal ≡ Some come
  pub stands : after (Some (opening space.start)) space.journal ≡ Some now

-- A turn can't be taken, for which private statements may have been answered. Where the rows are told, a step that the
-- session makes of it is not its next one, or the journal can't have it there.
pub record CantTake {Open : Type 0} (tells : Open → Bool) (txn : Open → OpenTxn) (faults : Open → ℕ) (old new : SpaceView) (before later : Player Open) (wanted : Turned) : Type 0 where
  pub same : IsSamePlayer before later
  pub part : TakesPart tells txn faults new later
  pub journal : new.journal ≡ old.journal
  pub goes : before.gave_up ≡ false
  pub none : IsTrue old.tells → (come : SessionState) (now : Standing) → HasCome old before come now → (made : Step) → step_made (newest_in now) come wanted ≡ Some made
      → is_taken now before.session.actor come made ≡ false

-- What a turn comes to, by whether it was taken.
abbrev pub Turns : {Open : Type 0} → (Open → Bool) → (Open → OpenTxn) → (Open → ℕ) → SpaceView → SpaceView → Player Open → Player Open → Turned → Bool → Type 0
Turns tells txn faults old new before later wanted true = Took tells txn faults old new before later wanted
Turns tells txn faults old new before later wanted false = CantTake tells txn faults old new before later wanted
