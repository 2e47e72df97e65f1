-- All sessions over one journal, and the items that make it.
use Rattle.std.proofs.Common.{◌≡◌, ℕ, ◌+◌, ◌≤◌, true, false, cond, List, [], ◌∷◌, ◌++◌, map, Option, Some, None, refl, sym, ap, subst, ◌∙◌, eqb-true, eq-eqb, arith, append-nil, append_assoc}
use Rattle.std.specs.Prelude.{option_and_then, option_map, ◌==◌}
use Rattle.std.proofs.lemmas.Option.{none-some, same_Some}
use Rattle.std.proofs.lemmas.List.{map-append}
use Rattle.std.proofs.lemmas.Slice.Eq.{bytes_eq-Decides}
use Rattle.xod_base.specs.Values.{same_bytes}
use Rattle.xod_lang.specs.declared.script.Item.{Item}
use Rattle.xod_lang.specs.declared.script.Item.TheVariants.{Turn}
use Rattle.xod_lang.specs.declared.script.Statement.{Statement}
use Rattle.xod_lang.specs.declared.script.Turned.{Turned}
use Rattle.xod_lang.specs.declared.script.Turned.TheVariants as turn
use Rattle.xod_journal.specs.declared.journal.JournalEntry.{JournalEntry}
use Rattle.xod_journal.specs.declared.journal.Step.{Step}
use Rattle.xod_journal.specs.Standing.{Newest, after, after_step}
use Rattle.xod_journal.specs.Txns.{OpenTxn}
use Rattle.xod_journal.proofs.CallerLemmas.{after-append, after-newest}
use Rattle.xod_session.specs.declared.course.SharedStep.{SharedStep}
use Rattle.xod_session.specs.declared.course.SharedStep.TheVariants as shared
use Rattle.xod_session.specs.Laws.{IsPlayed}
use Rattle.xod_session.specs.Sessions.{entry_seen, readied, session_step}
use Rattle.xod_session.specs.States.{SessionState}
use Rattle.xod_session.specs.Transcripts.{item_of, name_of, names_of, turned_of}
use Rattle.xod_session.specs.Turns.{asks_then}
use Rattle.xod_session.specs.World.{Player, Played, World, actor_named, all_taken, beside, entry_of, entry_taken, front_made, in_front, made_of, newest_in, played_with, players_step, session_of, step_made, step_of, taken, turn_made, world_after, world_step, world_with}
use Rattle.xod_session.proofs.OptionLemmas.{then_some, map_some}
use Rattle.xod_session.proofs.SessionLemmas.{session_after-append}

-- ---- tests of numbers

eq-flipped : (a b : ℕ) → (a == b) ≡ (b == a)
eq-flipped a b =
    elim (a == b) as (λ p. (a == b) ≡ p → p ≡ (b == a)) [
      | true ↦ λ e. sym (eq-eqb b a (sym (eqb-true a b e)))
      | false ↦ λ e. elim (b == a) as (λ q. (b == a) ≡ q → false ≡ q) [
        | true ↦ λ f. sym e ∙ eq-eqb a b (sym (eqb-true b a f))
        | false ↦ λ f. refl
      ] refl
    ] refl

own_test : (a actor k : ℕ) → (a == k) ≡ true → (a == actor) ≡ (actor == k)
own_test a actor k own = ap (λ n. n == actor) (eqb-true a k own) ∙ eq-flipped k actor

other_test : (a actor k : ℕ) → (a == k) ≡ false → (actor == k) ≡ true → (a == actor) ≡ false
other_test a actor k other here = ap (λ n. a == n) (eqb-true actor k here) ∙ other

-- ---- all sessions over one entry

pub in_front-some : (player : Player) (more next : List Player) (o : Option SessionState) → in_front player more o ≡ Some next → (x : SessionState) × (o ≡ Some x) × (Some (record player { state = x } ∷ more) ≡ Some next)
in_front-some player more next None e = absurd (none-some next e)
in_front-some player more next (Some x) e = (x, refl, e)

pub beside-some : (player : Player) (next : List Player) (o : Option (List Player)) → beside player o ≡ Some next → (x : List Player) × (o ≡ Some x) × (Some (player ∷ x) ≡ Some next)
beside-some player next None e = absurd (none-some next e)
beside-some player next (Some x) e = (x, refl, e)

pub players_stepped : (now : Newest) (k : ℕ) (players next : List Player) (entry : JournalEntry) → players_step now k players entry ≡ Some next
    → (actor : ℕ) → entry_seen now actor entry (session_of k players actor) ≡ session_of k next actor
players_stepped now k [] next entry e actor = absurd (none-some next e)
players_stepped now k (player ∷ more) next entry e actor =
    let goal : List Player → Type 0 = λ l. entry_seen now actor entry (cond (actor == k) (Some player.state) (session_of (k + 1) more actor)) ≡ session_of k l actor in
    elim (entry.actor == k) as (λ p. (entry.actor == k) ≡ p → cond p (in_front player more (session_step now player.state entry.step)) (beside player (players_step now (k + 1) more entry)) ≡ Some next → goal next) [
      | true ↦ λ own e.
          let s = in_front-some player more next (session_step now player.state entry.step) e in
          subst goal (same_Some _ _ s.2)
          (ap (λ b. cond b (option_and_then (λ here. session_step now here entry.step) (cond (actor == k) (Some player.state) (session_of (k + 1) more actor))) (cond (actor == k) (Some player.state) (session_of (k + 1) more actor))) (own_test entry.actor actor k own)
          ∙ elim (actor == k) as (λ q. cond q (option_and_then (λ here. session_step now here entry.step) (cond q (Some player.state) (session_of (k + 1) more actor))) (cond q (Some player.state) (session_of (k + 1) more actor)) ≡ cond q (Some s.0) (session_of (k + 1) more actor)) [
            | true ↦ s.1
            | false ↦ refl
          ])
      | false ↦ λ other e.
          let s = beside-some player next (players_step now (k + 1) more entry) e in
          subst goal (same_Some _ _ s.2)
          (elim (actor == k) as (λ q. (actor == k) ≡ q → entry_seen now actor entry (cond q (Some player.state) (session_of (k + 1) more actor)) ≡ cond q (Some player.state) (session_of (k + 1) s.0 actor)) [
            | true ↦ λ here. ap (λ b. cond b (session_step now player.state entry.step) (Some player.state)) (other_test entry.actor actor k other here)
            | false ↦ λ here. players_stepped now (k + 1) more s.0 entry s.1 actor
          ] refl)
    ] refl e

-- names stay
abbrev names : List Player → List (List ℕ)
names players = map (λ player. player.name) players

pub players_step-names : (now : Newest) (k : ℕ) (players next : List Player) (entry : JournalEntry) → players_step now k players entry ≡ Some next → names next ≡ names players
players_step-names now k [] next entry e = absurd (none-some next e)
players_step-names now k (player ∷ more) next entry e =
    elim (entry.actor == k) as (λ p. cond p (in_front player more (session_step now player.state entry.step)) (beside player (players_step now (k + 1) more entry)) ≡ Some next → names next ≡ player.name ∷ names more) [
      | true ↦ λ e. let s = in_front-some player more next (session_step now player.state entry.step) e in ap names (sym (same_Some _ _ s.2))
      | false ↦ λ e. let s = beside-some player next (players_step now (k + 1) more entry) e in
          ap names (sym (same_Some _ _ s.2)) ∙ ap (λ l. player.name ∷ l) (players_step-names now (k + 1) more s.0 entry s.1)
    ] e

-- ---- the world

pub record Grown (world next : World) (entry : JournalEntry) : Type 0 where
  pub standing : after_step world.standing entry.actor entry.step ≡ Some next.standing
  pub players : players_step (newest_in world.standing) 1 world.players entry ≡ Some next.players

pub world_stepped : (world next : World) (entry : JournalEntry) → world_step world entry ≡ Some next → Grown world next entry
world_stepped world next entry e =
    let P = players_step (newest_in world.standing) 1 world.players entry in
    elim (after_step world.standing entry.actor entry.step) as (λ o. after_step world.standing entry.actor entry.step ≡ o → world_with o P ≡ Some next → Grown world next entry) [
      | None ↦ λ a e. absurd (none-some next e)
      | Some standing ↦ λ a e. elim P as (λ o. P ≡ o → world_with (Some standing) o ≡ Some next → Grown world next entry) [
        | None ↦ λ p e. absurd (none-some next e)
        | Some players ↦ λ p e. let is : ◌≡◌ {A = World} (record { standing = standing; players = players }) next = same_Some _ _ e in
            record { standing = a ∙ (λ i. Some ((is i).standing)); players = p ∙ (λ i. Some ((is i).players)) }
      ] refl e
    ] refl e

pub world_after-append : (now : Option World) (journal more : List JournalEntry) → world_after now (journal ++ more) ≡ world_after (world_after now journal) more
world_after-append now [] more = refl
world_after-append now (entry ∷ journal) more = world_after-append (option_and_then (λ here. world_step here entry) now) journal more

pub world_after-none : (journal : List JournalEntry) → world_after None journal ≡ None
world_after-none [] = refl
world_after-none (entry ∷ more) = world_after-none more

-- ---- an entry is printed as the item that made it

actor_named-least : (k : ℕ) (players : List Player) (name : List ℕ) (actor : ℕ) → actor_named k players name ≡ Some actor → k ≤ actor
actor_named-least k [] name actor e = absurd (none-some actor e)
actor_named-least k (player ∷ more) name actor e =
    elim (same_bytes player.name name) as (λ b. cond b (Some k) (actor_named (k + 1) more name) ≡ Some actor → k ≤ actor) [
      | true ↦ λ e. let is : k ≡ actor = same_Some _ _ e in omega arith
      | false ↦ λ e. let above = actor_named-least (k + 1) more name actor e in omega arith
    ] e

apart : (a k : ℕ) → k + 1 ≤ a → (a == k) ≡ false
apart a k above = elim (a == k) as (λ p. (a == k) ≡ p → p ≡ false) [ true ↦ λ e. let is = eqb-true a k e in absurd (omega arith) | false ↦ λ e. refl ] refl

actor_named-name : (k : ℕ) (players : List Player) (name : List ℕ) (actor : ℕ) → actor_named k players name ≡ Some actor → name_of k (names players) actor ≡ name
actor_named-name k [] name actor e = absurd (none-some actor e)
actor_named-name k (player ∷ more) name actor e =
    elim (same_bytes player.name name) as (λ b. same_bytes player.name name ≡ b → cond b (Some k) (actor_named (k + 1) more name) ≡ Some actor → cond (actor == k) player.name (name_of (k + 1) (names more) actor) ≡ name) [
      | true ↦ λ same e. ap (λ b. cond b player.name (name_of (k + 1) (names more) actor)) (eq-eqb actor k (sym (same_Some _ _ e))) ∙ (bytes_eq-Decides player.name name).0 same
      | false ↦ λ same e. ap (λ b. cond b player.name (name_of (k + 1) (names more) actor)) (apart actor k (actor_named-least (k + 1) more name actor e)) ∙ actor_named-name (k + 1) more name actor e
    ] refl e

step_of-turned : (now : Newest) (asked : Option SharedStep) (txn : Option OpenTxn) (turned : Turned) (made : Step) → step_of now asked txn turned ≡ Some made → turned_of made ≡ turned
step_of-turned now (Some (shared.Begin mode)) txn turn.Begin made e = ap turned_of (sym (same_Some _ _ e))
step_of-turned now (Some shared.Flush) (Some txn) turn.Flush made e = ap turned_of (sym (same_Some _ _ e))
step_of-turned now (Some shared.Revert) txn turn.Revert made e = ap turned_of (sym (same_Some _ _ e))
step_of-turned now (Some shared.End) txn turn.End made e = ap turned_of (sym (same_Some _ _ e))
step_of-turned now (Some shared.Sync) txn turn.Sync made e = ap turned_of (sym (same_Some _ _ e))
step_of-turned now asked txn turned made e = absurd (none-some made e)

front_made-turned : (now : Newest) (session : SessionState) (rest : List Statement) (turned : Turned) (made : Step) → front_made now session rest turned ≡ Some made → turned_of made ≡ turned
front_made-turned now session rest (turn.Stop line cause) made e = ap turned_of (sym (same_Some _ _ e))
front_made-turned now session [] turn.Begin made e = absurd (none-some made e)
front_made-turned now session [] turn.Flush made e = absurd (none-some made e)
front_made-turned now session [] turn.Revert made e = absurd (none-some made e)
front_made-turned now session [] turn.End made e = absurd (none-some made e)
front_made-turned now session [] turn.Sync made e = absurd (none-some made e)
front_made-turned now session (statement ∷ more) turn.Begin made e = step_of-turned now (asks_then session.place.due statement.form) session.txn turn.Begin made e
front_made-turned now session (statement ∷ more) turn.Flush made e = step_of-turned now (asks_then session.place.due statement.form) session.txn turn.Flush made e
front_made-turned now session (statement ∷ more) turn.Revert made e = step_of-turned now (asks_then session.place.due statement.form) session.txn turn.Revert made e
front_made-turned now session (statement ∷ more) turn.End made e = step_of-turned now (asks_then session.place.due statement.form) session.txn turn.End made e
front_made-turned now session (statement ∷ more) turn.Sync made e = step_of-turned now (asks_then session.place.due statement.form) session.txn turn.Sync made e

made_of-item : (world : World) (item : Item) (entry : JournalEntry) → made_of world item ≡ Some entry → item_of (names_of world) entry ≡ item
made_of-item world (Turn name turned) entry e =
    let a = then_some (turn_made (newest_in world.standing) world.players turned) (actor_named 1 world.players name) entry e in
    let s = then_some (λ session. option_map (entry_of a.0) (step_made (newest_in world.standing) session turned)) (session_of 1 world.players a.0) entry a.2 in
    let m = map_some (entry_of a.0) (step_made (newest_in world.standing) s.0 turned) entry s.2 in
    let is : entry_of a.0 m.0 ≡ entry = same_Some _ _ m.2 in
    ap (item_of (names_of world)) (sym is)
    ∙ (λ i. Turn (actor_named-name 1 world.players name a.0 a.1 i) (front_made-turned (newest_in world.standing) (readied s.0) (readied s.0).place.rest turned m.0 m.1 i))

-- ---- items

record Follows (start : World) (items : List Item) (now : Played) : Type 0 where
  played : IsPlayed start items now
  same : names_of now.world ≡ names_of start

entered-played : (start : World) (items : List Item) (now : Played) (item : Item) (entry : JournalEntry) (world : World) → Follows start items now → made_of now.world item ≡ Some entry → world_step now.world entry ≡ Some world
    → Follows start (items ++ item ∷ []) (played_with now.journal entry world)
entered-played start items now item entry world follows made step =
    let is = follows.played in
    let s = world_stepped now.world world entry step in
    record {
      played = record {
        printed = map-append (item_of (names_of start)) now.journal (entry ∷ [])
            ∙ (λ i. is.printed i ++ item_of (sym follows.same i) entry ∷ []) ∙ ap (λ x. items ++ x ∷ []) (made_of-item now.world item entry made);
        world = world_after-append (Some start) now.journal _ ∙ ap (λ w. world_after w (entry ∷ [])) is.world ∙ step;
        standing = after-append (Some start.standing) now.journal _ ∙ ap (λ w. after w (entry ∷ [])) is.standing ∙ s.standing;
        sessions = λ actor. session_after-append (newest_in start.standing) actor (session_of 1 start.players actor) now.journal _
            ∙ (λ i. entry_seen (after-newest start.standing now.world.standing now.journal is.standing i) actor entry (is.sessions actor i))
            ∙ players_stepped (newest_in now.world.standing) 1 now.world.players world.players entry s.players actor;
      };
      same = players_step-names (newest_in now.world.standing) 1 now.world.players world.players entry s.players ∙ follows.same;
    }

taken-played : (start : World) (items : List Item) (now next : Played) (item : Item) → Follows start items now → taken now item ≡ Some next → Follows start (items ++ item ∷ []) next
unfolding taken
taken-played start items now next item follows e =
    let m = then_some (entry_taken now) (made_of now.world item) next e in
    let w = map_some (played_with now.journal m.0) (world_step now.world m.0) next m.2 in
    subst (Follows start (items ++ item ∷ [])) (same_Some _ _ w.2) (entered-played start items now item m.0 w.0 follows m.1 w.1)

all_taken-none : (items : List Item) → all_taken None items ≡ None
all_taken-none [] = refl
all_taken-none (item ∷ more) = all_taken-none more

goes_on-played : (start : World) (before items : List Item) (now next : Played) → Follows start before now → all_taken (Some now) items ≡ Some next → Follows start (before ++ items) next
goes_on-played start before [] now next is e = subst (Follows start (before ++ [])) (same_Some _ _ e) (subst (λ l. Follows start l now) (sym (append-nil before)) is)
goes_on-played start before (item ∷ more) now next is e =
    elim (taken now item) as (λ o. taken now item ≡ o → all_taken o more ≡ Some next → Follows start (before ++ item ∷ more) next) [
      | None ↦ λ step e. absurd (none-some next (sym (all_taken-none more) ∙ e))
      | Some here ↦ λ step e. subst (λ l. Follows start l next) (append_assoc before (item ∷ []) more)
          (goes_on-played start (before ++ item ∷ []) more here next (taken-played start before now here item is step) e)
    ] refl e

pub all_taken-played : (start : World) (items : List Item) (now : Played) → all_taken (Some (record { world = start; journal = [] })) items ≡ Some now → IsPlayed start items now
all_taken-played start items now e =
    (goes_on-played start [] items (record { world = start; journal = [] }) now (record { played = record { printed = refl; world = refl; standing = refl; sessions = λ actor. refl }; same = refl }) e).played
