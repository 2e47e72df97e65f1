-- Sessions that have all come somewhere by a journal that stands make a legal journal.
use Rattle.std.proofs.Common.{◌≡◌, ℕ, ◌+◌, Bool, true, false, cond, List, [], ◌∷◌, map, Some, None, refl, sym, ap, ◌∙◌, eq-eqb}
use Rattle.std.specs.Prelude.{is_some, ◌==◌, ◌&&◌}
use Rattle.std.specs.List.{list_all}
use Rattle.std.proofs.lemmas.Option.{none-some, same_Some}
use Rattle.std.proofs.lemmas.Bool.{false≢true}
use Rattle.xod_journal.specs.declared.journal.JournalEntry.{JournalEntry}
use Rattle.xod_journal.specs.Standing.{Newest, Standing, after, after_step, newest_step}
use Rattle.xod_journal.proofs.JournalLemmas.{after-none, step-newest}
use Rattle.xod_session.specs.Laws.{IsLegal, is_players}
use Rattle.xod_session.specs.Sessions.{session_after, session_step}
use Rattle.xod_session.specs.States.{SessionState}
use Rattle.xod_session.specs.Transcripts.{names_of}
use Rattle.xod_session.specs.World.{Player, World, beside, in_front, newest_in, players_step, session_of, world_after, world_with}
use Rattle.xod_session.proofs.OptionLemmas.{both_true, some_there}
use Rattle.xod_session.proofs.SessionLemmas.{session_after-none}
use Rattle.xod_session.proofs.WorldLemmas.{players_step-names, players_stepped}

-- sessions with the same names have the same numbers
has_number : ℕ → List (List ℕ) → ℕ → Bool
has_number k [] actor = false
has_number k (name ∷ more) actor = cond (actor == k) true (has_number (k + 1) more actor)

numbered : (k : ℕ) (players : List Player) (actor : ℕ) → is_some (session_of k players actor) ≡ has_number k (map (λ player. player.name) players) actor
unfolding has_number
numbered k [] actor = refl
numbered k (player ∷ more) actor =
    elim (actor == k) as (λ b. is_some (cond b (Some player.state) (session_of (k + 1) more actor)) ≡ cond b true (has_number (k + 1) (map (λ player. player.name) more) actor)) [
      | true ↦ refl
      | false ↦ numbered (k + 1) more actor
    ]

-- the sessions behind a step of one of them
players_taken : (now : Newest) (k : ℕ) (players : List Player) (entry : JournalEntry) (state next : SessionState) → session_of k players entry.actor ≡ Some state → session_step now state entry.step ≡ Some next
    → (others : List Player) × (players_step now k players entry ≡ Some others)
players_taken now k [] entry state next is step = absurd (none-some state is)
players_taken now k (player ∷ more) entry state next is step =
    elim (entry.actor == k) as (λ b. cond b (Some player.state) (session_of (k + 1) more entry.actor) ≡ Some state
    → (others : List Player) × (cond b (in_front player more (session_step now player.state entry.step)) (beside player (players_step now (k + 1) more entry)) ≡ Some others)) [
      | true ↦ λ is. (record player { state = next } ∷ more, ap (in_front player more) (ap (λ s. session_step now s entry.step) (same_Some _ _ is) ∙ step))
      | false ↦ λ is. let rest = players_taken now (k + 1) more entry state next is step in (player ∷ rest.0, ap (beside player) rest.1)
    ] is

-- a session that has come somewhere has taken its first entry
first_taken : (now : Newest) (entry : JournalEntry) (more : List JournalEntry) (state : SessionState) → is_some (session_after now entry.actor (Some state) (entry ∷ more)) ≡ true → (next : SessionState) × (session_step now state entry.step ≡ Some next)
first_taken now entry more state there =
    elim (session_step now state entry.step) as (λ o. is_some (session_after (newest_step now entry.step) entry.actor o more) ≡ true → (next : SessionState) × (o ≡ Some next)) [
      | None ↦ λ t. absurd (false≢true (sym (ap is_some (session_after-none (newest_step now entry.step) entry.actor more)) ∙ t))
      | Some next ↦ λ t. (next, refl)
    ] (ap (λ b. is_some (session_after (newest_step now entry.step) entry.actor (cond b (session_step now state entry.step) (Some state)) more)) (sym (eq-eqb entry.actor entry.actor refl)) ∙ there)

-- a journal that stands has taken its first step
first_stands : (now next : Standing) (entry : JournalEntry) (more : List JournalEntry) → after (Some now) (entry ∷ more) ≡ Some next → (here : Standing) × (after_step now entry.actor entry.step ≡ Some here)
first_stands now next entry more e =
    elim (after_step now entry.actor entry.step) as (λ o. after o more ≡ Some next → (here : Standing) × (o ≡ Some here)) [
      | None ↦ λ e. absurd (none-some next (sym (after-none more) ∙ e))
      | Some here ↦ λ e. (here, refl)
    ] e

-- entries of the sessions of one world are those of another one with the same names
all_players : (world other : World) (journal : List JournalEntry) → names_of other ≡ names_of world → list_all (is_players world) journal ≡ true → list_all (is_players other) journal ≡ true
all_players world other [] same all = refl
all_players world other (entry ∷ more) same all =
    let t = both_true (is_players world entry) (list_all (is_players world) more) all in
    (λ i. (numbered 1 other.players entry.actor ∙ ap (λ names. has_number 1 names entry.actor) same ∙ sym (numbered 1 world.players entry.actor) ∙ t.0) i && list_all (is_players other) more) ∙ all_players world other more same t.1

pub make_a_world : (start : World) (journal : List JournalEntry) (now : Standing) → after (Some start.standing) journal ≡ Some now → list_all (is_players start) journal ≡ true
    → ((actor : ℕ) → is_some (session_of 1 start.players actor) ≡ true → is_some (session_after (newest_in start.standing) actor (session_of 1 start.players actor) journal) ≡ true)
    → IsLegal start journal now
make_a_world start [] now stands all come = record { world = start; is = refl; standing = same_Some _ _ stands; names = refl; sessions = λ actor. refl }
make_a_world start (entry ∷ more) now stands all come =
    let newest = newest_in start.standing in
    let t = both_true (is_players start entry) (list_all (is_players start) more) all in
    let state = some_there (session_of 1 start.players entry.actor) t.0 in
    let step = first_taken newest entry more state.0 (ap (λ o. is_some (session_after newest entry.actor o (entry ∷ more))) (sym state.1) ∙ come entry.actor t.0) in
    let here = first_stands start.standing now entry more stands in
    let players = players_taken newest 1 start.players entry state.0 step.0 state.1 step.1 in
    let next : World = record { standing = here.0; players = players.0 } in
    let names : names_of next ≡ names_of start = players_step-names newest 1 start.players players.0 entry players.1 in
    let seen : (actor : ℕ) → session_after newest actor (session_of 1 start.players actor) (entry ∷ more) ≡ session_after (newest_in here.0) actor (session_of 1 players.0 actor) more =
    λ actor. (λ i. session_after (step-newest start.standing here.0 entry.actor entry.step here.1 i) actor (players_stepped newest 1 start.players players.0 entry players.1 actor i) more) in
    let there : (actor : ℕ) → is_some (session_of 1 players.0 actor) ≡ true → is_some (session_after (newest_in here.0) actor (session_of 1 players.0 actor) more) ≡ true =
    λ actor has. ap is_some (sym (seen actor)) ∙ come actor (numbered 1 start.players actor ∙ ap (λ names. has_number 1 names actor) (sym names) ∙ sym (numbered 1 players.0 actor) ∙ has) in
    let legal = make_a_world next more now (ap (λ o. after o more) (sym here.1) ∙ stands) (all_players start next more names t.1) there in
    record {
      world = legal.world;
      is = ap (λ o. world_after o more) (λ i. world_with (here.1 i) (players.1 i)) ∙ legal.is;
      standing = legal.standing;
      names = legal.names ∙ names;
      sessions = λ actor. legal.sessions actor ∙ sym (seen actor);
    }
