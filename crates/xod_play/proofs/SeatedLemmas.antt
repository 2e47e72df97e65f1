-- Players by their numbers and names, and the sessions of a world that they are.
use Rattle.std.proofs.Common.{◌≡◌, ◌<◌, ℕ, zero, suc, ◌+◌, true, false, cond, List, [], ◌∷◌, ◌++◌, map, length, get_or, set, Option, Some, None, refl, sym, ap, subst, ◌∙◌, arith, IsTrue, eqb-true, eq-eqb}
use Rattle.std.specs.Prelude.{Bool, ◌==◌, ◌||◌, option_map, is_some}
use Rattle.std.specs.List.{list_all}
use Rattle.std.proofs.lemmas.Option.{none-some, same_Some}
use Rattle.xod_base.specs.Values.{same_bytes}
use Rattle.xod_journal.specs.Spaces.{IsSpace, KeepsSpace, SpaceView}
use Rattle.xod_journal.specs.Standing.{Standing, after, opening}
use Rattle.xod_journal.specs.Txns.{OpenTxn}
use Rattle.xod_session.specs.Calls.{Grows, IsFresh}
use Rattle.xod_session.specs.Laws.{IsLegal, SessionsMakeAWorld, is_players}
use Rattle.xod_session.specs.Seats.{view_of}
use Rattle.xod_session.specs.Sessions.{session_after}
use Rattle.xod_session.specs.States.{SessionState, opened}
use Rattle.xod_session.specs.World.{Player as Played, actor_named, entry_of, player_of, session_of}
use Rattle.xod_session.proofs.CallerLemmas.{beside}
use Rattle.xod_session.proofs.OptionLemmas.{some_there}
use Rattle.xod_play.specs.declared.player.Player.{Player}
use Rattle.xod_play.specs.Places.{place_named}
use Rattle.xod_play.specs.Players.{TakesPart, script_in}
use Rattle.xod_play.specs.Rounds.{AllFresh, AllTakePart, IsNumbered, scripts_in, start_of}
use Rattle.xod_play.specs.Follows.{has_given_up}
use Rattle.xod_play.proofs.FollowLemmas.{given-append, given-other}

-- ---- numbers

pub apart : (a k : ℕ) → k < a → (a == k) ≡ false
apart a k above = elim (a == k) as (λ p. (a == k) ≡ p → p ≡ false) [ true ↦ λ e. let is = eqb-true a k e in absurd (omega arith) | false ↦ λ e. refl ] refl

pub below : (a k : ℕ) → a < k → (a == k) ≡ false
below a k under = elim (a == k) as (λ p. (a == k) ≡ p → p ≡ false) [ true ↦ λ e. let is = eqb-true a k e in absurd (omega arith) | false ↦ λ e. refl ] refl

-- ---- sessions by number

-- the sessions of a world at the start
abbrev pub opened_players : {Open : Type 0} → List (Player Open) → List Played
opened_players players = map player_of (scripts_in players)

pub record HasPlayer {Open : Type 0} (tells : Open → Bool) (txn : Open → OpenTxn) (faults : Open → ℕ) (space : SpaceView) (actor : ℕ) (state : SessionState) : Type 0 where
  pub player : Player Open
  pub is : player.session.actor ≡ actor
  pub part : TakesPart tells txn faults space player
  pub state_is : state ≡ opened player.session.course.script

-- a journal that is legal, and where it stands
pub record Stands {Open : Type 0} (space : SpaceView) (players : List (Player Open)) : Type 0 where
  pub now : Standing
  pub stands : after (Some (opening space.start)) space.journal ≡ Some now
  pub legal : IsLegal (start_of space players) space.journal now

-- the first player with a name, at a place
pub record IsNamed {Open : Type 0} (tells : Open → Bool) (txn : Open → OpenTxn) (faults : Open → ℕ) (k : ℕ) (space : SpaceView) (players : List (Player Open)) (name : List ℕ) (at : ℕ) (player : Player Open) : Type 0 where
  pub within : at < length players
  pub seated : IsNumbered tells txn faults (k + at) space player
  pub named : actor_named k (opened_players players) name ≡ Some (k + at)
  pub there : session_of k (opened_players players) (k + at) ≡ Some (opened player.session.course.script)

given_on : (old new : SpaceView) (actor other : ℕ) → Grows old.journal new.journal actor → (actor == other) ≡ false → has_given_up new.journal other ≡ has_given_up old.journal other
given_on old new actor other grows apart =
    ap (λ j. has_given_up j other) grows.grown ∙ given-append old.journal (map (entry_of actor) grows.steps) other
    ∙ ap (λ b. has_given_up old.journal other || b) (given-other actor other grows.steps apart) ∙ either_false (has_given_up old.journal other)
  where
    either_false : (b : Bool) → (b || false) ≡ b
    either_false true = refl
    either_false false = refl

module _ {Open : Type 0} (tells : Open → Bool) (txn : Open → OpenTxn) (faults : Open → ℕ) where
  pub numbered : (k : ℕ) (space : SpaceView) (players : List (Player Open)) → AllTakePart tells txn faults k space players → (actor : ℕ) (state : SessionState) → session_of k (opened_players players) actor ≡ Some state → HasPlayer tells txn faults space actor state
  numbered k space [] part actor state e = absurd (none-some state e)
  numbered k space (player ∷ more) part actor state e =
      elim (actor == k) as (λ b. (actor == k) ≡ b → cond b (Some (opened player.session.course.script)) (session_of (k + 1) (opened_players more) actor) ≡ Some state → HasPlayer tells txn faults space actor state) [
        | true ↦ λ own e. record { player = player; is = part.0.actor ∙ sym (eqb-true actor k own); part = part.0.part; state_is = sym (same_Some _ _ e) }
        | false ↦ λ other e. numbered (k + 1) space more part.1 actor state e
      ] refl e

  -- ---- a legal journal

  pub legal-run : (space : SpaceView) (players : List (Player Open)) → AllTakePart tells txn faults 1 space players → IsTrue space.tells → IsSpace space → SessionsMakeAWorld → list_all (is_players (start_of space players)) space.journal ≡ true → Stands space players
  legal-run space players part t lawful law own =
      let there = some_there (after (Some (opening space.start)) space.journal) (lawful.stands t) in
      record {
        now = there.0;
        stands = there.1;
        legal = law (start_of space players) space.journal there.0 there.1 own (λ actor is.
            let state = some_there (session_of 1 (opened_players players) actor) is in
            let has = numbered 1 space players part actor state.0 state.1 in
            let at = has.part.plays.known t in
            ap (λ o. is_some (session_after space.start actor o space.journal)) (state.1 ∙ ap (λ s. Some s) has.state_is)
            ∙ (λ i. is_some (session_after space.start (sym has.is i) (Some (opened has.player.session.course.script)) space.journal)) ∙ ap is_some at.is);
      }

  -- ---- a turn of one player leaves the others

  module _ (old new : SpaceView) (keeps : KeepsSpace old new) (lawful : IsSpace new) (actor : ℕ) (grows : Grows old.journal new.journal actor) where
    other_part : (player : Player Open) → (actor == player.session.actor) ≡ false → TakesPart tells txn faults old player → TakesPart tells txn faults new player
    other_part player other part = record {
      plays = beside tells txn faults old new (view_of player.session) actor keeps lawful grows other part.plays;
      gave = part.gave ∙ sym (given_on old new actor player.session.actor grows other);
    }

    others_part : (k : ℕ) (players : List (Player Open)) → actor < k → AllTakePart tells txn faults k old players → AllTakePart tells txn faults k new players
    others_part k [] under part = tt
    others_part k (player ∷ more) under part =
        (record { actor = part.0.actor; part = other_part player (ap (λ n. actor == n) part.0.actor ∙ below actor k under) part.0.part }, others_part (k + 1) more (omega (arith, under)) part.1)

    -- the players before it
    pub fronts-part : (k : ℕ) (players : List (Player Open)) → k + length players ≡ actor → AllTakePart tells txn faults k old players → AllTakePart tells txn faults k new players
    fronts-part k [] is part = tt
    fronts-part k (player ∷ more) is part =
        let there : (k + 1) + length more ≡ k + suc (length more) = omega arith in
        (record { actor = part.0.actor; part = other_part player (ap (λ n. actor == n) part.0.actor ∙ apart actor k (omega (arith, is))) part.0.part }, fronts-part (k + 1) more (there ∙ is) part.1)

    pub part-behind : (k : ℕ) (players : List (Player Open)) (at : ℕ) (later : Player Open) → at < length players → AllTakePart tells txn faults k old players → actor ≡ k + at → IsNumbered tells txn faults (k + at) new later → AllTakePart tells txn faults k new (set players at later)
    part-behind k [] at later within part is seated = absurd (omega (arith, within))
    part-behind k (player ∷ more) zero later within part is seated =
        let here : k + 0 ≡ k = omega arith in
        (subst (λ n. IsNumbered tells txn faults n new later) here seated, others_part (k + 1) more (omega (arith, is)) part.1)
    part-behind k (player ∷ more) (suc at) later within part is seated =
        let there : k + suc at ≡ (k + 1) + at = omega arith in (
          record { actor = part.0.actor; part = other_part player (ap (λ n. actor == n) part.0.actor ∙ apart actor k (omega (arith, is))) part.0.part },
          part-behind (k + 1) more at later (omega (arith, within)) part.1 (is ∙ there) (subst (λ n. IsNumbered tells txn faults n new later) there seated),
        )

  -- ---- players by name

  front_named : (k : ℕ) (space : SpaceView) (player : Player Open) (more : List (Player Open)) → IsNumbered tells txn faults k space player → (name : List ℕ) → same_bytes player.name name ≡ true → IsNamed tells txn faults k space (player ∷ more) name 0 player
  front_named k space player more seated name own =
      let here : k ≡ k + 0 = omega arith in
      record {
        within = omega arith;
        seated = subst (λ n. IsNumbered tells txn faults n space player) here seated;
        named = ap (λ b. cond b (Some k) (actor_named (k + 1) (opened_players more) name)) own ∙ ap (λ n. Some n) here;
        there = ap (λ b. cond b (Some (opened player.session.course.script)) (session_of (k + 1) (opened_players more) (k + 0))) (eq-eqb (k + 0) k (sym here));
      }

  named_behind : (k : ℕ) (space : SpaceView) (player : Player Open) (more : List (Player Open)) (name : List ℕ) (at : ℕ) (d : Player Open) → same_bytes player.name name ≡ false → IsNamed tells txn faults (k + 1) space more name at (get_or more at d)
      → IsNamed tells txn faults k space (player ∷ more) name (suc at) (get_or more at d)
  named_behind k space player more name at d other rest =
      let number : (k + 1) + at ≡ k + suc at = omega arith in
      let within = rest.within in
      record {
        within = omega (arith, within);
        seated = subst (λ m. IsNumbered tells txn faults m space (get_or more at d)) number rest.seated;
        named = ap (λ b. cond b (Some k) (actor_named (k + 1) (opened_players more) name)) other ∙ rest.named ∙ ap (λ m. Some m) number;
        there = ap (λ b. cond b (Some (opened player.session.course.script)) (session_of (k + 1) (opened_players more) (k + suc at))) (apart (k + suc at) k (omega arith))
            ∙ ap (session_of (k + 1) (opened_players more)) (sym number) ∙ rest.there;
      }

  pub named-at : (k : ℕ) (space : SpaceView) (players : List (Player Open)) → AllTakePart tells txn faults k space players → (name : List ℕ) (at : ℕ) (d : Player Open) → place_named players name ≡ Some at → IsNamed tells txn faults k space players name at (get_or players at d)
  named-at k space [] part name at d e = absurd (none-some at e)
  named-at k space (player ∷ more) part name zero d e =
      elim (same_bytes player.name name) as (λ b. same_bytes player.name name ≡ b → cond b (Some 0) (option_map (λ n. n + 1) (place_named more name)) ≡ Some 0 → IsNamed tells txn faults k space (player ∷ more) name 0 player) [
        | true ↦ λ own e. front_named k space player more part.0 name own
        | false ↦ λ other e. absurd (no_zero (place_named more name) e)
      ] refl e
    where
      no_zero : (o : Option ℕ) → ◌≡◌ {A = Option ℕ} (option_map (λ n. n + 1) o) (Some 0) → ⊥
      no_zero None e = none-some 0 e
      no_zero (Some n) e = let f : n + 1 ≡ 0 = same_Some _ _ e in omega (arith, f)
  named-at k space (player ∷ more) part name (suc at) d e =
      elim (same_bytes player.name name) as (λ b. same_bytes player.name name ≡ b → cond b (Some 0) (option_map (λ n. n + 1) (place_named more name)) ≡ Some (suc at) → IsNamed tells txn faults k space (player ∷ more) name (suc at) (get_or more at d)) [
        | true ↦ λ own e. let f : 0 ≡ suc at = same_Some _ _ e in absurd (omega (arith, f))
        | false ↦ λ other e. named_behind k space player more name at d other (named-at (k + 1) space more part.1 name at d (less (place_named more name) e))
      ] refl e
    where
      less : (o : Option ℕ) → ◌≡◌ {A = Option ℕ} (option_map (λ n. n + 1) o) (Some (suc at)) → o ≡ Some at
      less None e = absurd (none-some (suc at) e)
      less (Some n) e = let f : n + 1 ≡ suc at = same_Some _ _ e in let g : n ≡ at = omega (arith, f) in ap (λ m. Some m) g

  -- ---- one player more, or one fewer

  pub part-push : (k : ℕ) (space : SpaceView) (players : List (Player Open)) (player : Player Open) → AllTakePart tells txn faults k space players → IsNumbered tells txn faults (k + length players) space player → AllTakePart tells txn faults k space (players ++ player ∷ [])
  part-push k space [] player part seated =
      let here : k + 0 ≡ k = omega arith in
      (subst (λ n. IsNumbered tells txn faults n space player) here seated, tt)
  part-push k space (first ∷ more) player part seated =
      let there : k + suc (length more) ≡ (k + 1) + length more = omega arith in
      (part.0, part-push (k + 1) space more player part.1 (subst (λ n. IsNumbered tells txn faults n space player) there seated))

  pub part-pop : (k : ℕ) (space : SpaceView) (players : List (Player Open)) (player : Player Open) → AllTakePart tells txn faults k space (players ++ player ∷ []) → AllTakePart tells txn faults k space players × IsNumbered tells txn faults (k + length players) space player
  part-pop k space [] player part =
      let here : k ≡ k + 0 = omega arith in
      (tt, subst (λ n. IsNumbered tells txn faults n space player) here part.0)
  part-pop k space (first ∷ more) player part =
      let there : (k + 1) + length more ≡ k + suc (length more) = omega arith in
      let rest = part-pop (k + 1) space more player part.1 in
      ((part.0, rest.0), subst (λ n. IsNumbered tells txn faults n space player) there rest.1)

pub unnamed : {Open : Type 0} (k : ℕ) (players : List (Player Open)) (name : List ℕ) → place_named players name ≡ None → actor_named k (opened_players players) name ≡ None
unnamed k [] name e = refl
unnamed k (player ∷ more) name e =
    elim (same_bytes player.name name) as (λ b. cond b (Some 0) (option_map (λ n. n + 1) (place_named more name)) ≡ None → cond b (Some k) (actor_named (k + 1) (opened_players more) name) ≡ None) [
      | true ↦ λ e. absurd (none-some 0 (sym e))
      | false ↦ λ e. unnamed (k + 1) more name (none_in (place_named more name) e)
    ] e
  where
    none_in : (o : Option ℕ) → ◌≡◌ {A = Option ℕ} (option_map (λ n. n + 1) o) None → o ≡ None
    none_in None e = refl
    none_in (Some n) e = absurd (none-some (n + 1) (sym e))

-- scripts stay
pub scripts-behind : {Open : Type 0} (players : List (Player Open)) (at : ℕ) (d later : Player Open) → script_in later ≡ script_in (get_or players at d) → scripts_in (set players at later) ≡ scripts_in players
scripts-behind [] at d later same = refl
scripts-behind (player ∷ more) zero d later same = ap (λ s. s ∷ scripts_in more) same
scripts-behind (player ∷ more) (suc at) d later same = ap (λ l. script_in player ∷ l) (scripts-behind more at d later same)

-- ---- players between their turns

pub fresh-at : {Open : Type 0} (players : List (Player Open)) (at : ℕ) (d : Player Open) → at < length players → AllFresh players → IsFresh (get_or players at d).session
fresh-at [] at d within fresh = absurd (omega (arith, within))
fresh-at (player ∷ more) zero d within fresh = fresh.0
fresh-at (player ∷ more) (suc at) d within fresh = fresh-at more at d (omega (arith, within)) fresh.1

pub fresh-behind : {Open : Type 0} (players : List (Player Open)) (at : ℕ) (later : Player Open) → AllFresh players → IsFresh later.session → AllFresh (set players at later)
fresh-behind [] at later fresh own = tt
fresh-behind (player ∷ more) zero later fresh own = (own, fresh.1)
fresh-behind (player ∷ more) (suc at) later fresh own = (fresh.0, fresh-behind more at later fresh.1 own)

pub fresh-push : {Open : Type 0} (players : List (Player Open)) (player : Player Open) → AllFresh players → IsFresh player.session → AllFresh (players ++ player ∷ [])
fresh-push [] player fresh own = (own, tt)
fresh-push (first ∷ more) player fresh own = (fresh.0, fresh-push more player fresh.1 own)
