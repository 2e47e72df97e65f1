-- A world over a journal that grows by one entry, and the items that make it.
use Rattle.std.proofs.Common.{◌≡◌, ℕ, ◌+◌, Bool, true, false, cond, List, [], ◌∷◌, ◌++◌, Option, Some, None, refl, sym, ap, ◌∙◌, eq-eqb, arith, suc, length, append-nil, Err}
use Rattle.std.specs.Prelude.{option_and_then, option_map, ◌==◌, is_some}
use Rattle.std.proofs.lemmas.Option.{none-some, same_Some}
use Rattle.std.proofs.lemmas.Bool.{false≢true}
use Rattle.xod_lang.specs.declared.script.Item.{Item}
use Rattle.xod_lang.specs.declared.script.Item.TheVariants.{Turn}
use Rattle.xod_lang.specs.declared.script.Statement.{Statement}
use Rattle.xod_lang.specs.declared.script.Turned.{Turned as TurnOf}
use Rattle.xod_journal.specs.declared.journal.JournalEntry.{JournalEntry}
use Rattle.xod_journal.specs.declared.journal.Step.{Step}
use Rattle.xod_journal.specs.declared.journal.Step.TheVariants as step
use Rattle.xod_journal.specs.Books.{version_of, same_version}
use Rattle.xod_journal.specs.Laws.{SameIsEqual}
use Rattle.xod_journal.specs.Standing.{Newest, Standing, after, after_step}
use Rattle.xod_journal.specs.Txns.{OpenTxn}
use Rattle.xod_journal.proofs.CallerLemmas.{after-append, after-newest}
use Rattle.xod_session.specs.declared.course.SharedStep.{SharedStep}
use Rattle.xod_session.specs.declared.course.SharedStep.TheVariants as shared
use Rattle.xod_session.specs.Laws.{without_origin}
use Rattle.xod_session.specs.Sessions.{entry_seen, front_taken, readied, session_after, session_step, stepped}
use Rattle.xod_session.specs.States.{SessionState}
use Rattle.xod_session.specs.Transcripts.{turned_of}
use Rattle.xod_session.specs.Turns.{Turned, asks_then, flush_there, same_changes, turned}
use Rattle.xod_play.specs.Orders.{ended, item_played, order_played, played_from}
use Rattle.xod_session.specs.World.{Player, Played, all_taken, World, beside, entry_of, front_made, in_front, made_of, newest_in, player_of, players_step, session_of, step_made, step_of, taken, turn_made, world_after, world_at, world_step, world_with, actor_named}
use Rattle.xod_session.proofs.OptionLemmas.{both_true, let_through}
use Rattle.xod_session.proofs.SameLemmas.{same_changes-is, same_mode-is, same_version-is}
use Rattle.xod_session.proofs.SessionLemmas.{session_after-append}

-- ---- an entry more

-- the sessions after an entry that is the next step of its session
players_step-there : (now : Newest) (k : ℕ) (players : List Player) (entry : JournalEntry) (state : SessionState)
    → entry_seen now entry.actor entry (session_of k players entry.actor) ≡ Some state → (next : List Player) × (players_step now k players entry ≡ Some next)
players_step-there now k [] entry state e = absurd (none-some state (sym (nothing_seen (entry.actor == entry.actor)) ∙ e))
  where
    nothing_seen : (b : Bool) → cond b (option_and_then (λ here. session_step now here entry.step) None) None ≡ None
    nothing_seen true = refl
    nothing_seen false = refl
players_step-there now k (player ∷ more) entry state e =
    elim (entry.actor == k) as (λ p. (entry.actor == k) ≡ p → entry_seen now entry.actor entry (cond p (Some player.state) (session_of (k + 1) more entry.actor)) ≡ Some state
    → (next : List Player) × (cond p (in_front player more (session_step now player.state entry.step)) (beside player (players_step now (k + 1) more entry)) ≡ Some next)) [
      | true ↦ λ own e. front (session_step now player.state entry.step) (sym (ap (λ b. cond b (session_step now player.state entry.step) (Some player.state)) (eq-eqb entry.actor entry.actor refl)) ∙ e)
      | false ↦ λ other e.
          let rest = players_step-there now (k + 1) more entry state e in
          (player ∷ rest.0, ap (beside player) rest.1)
    ] refl e
  where
    front : (o : Option SessionState) → o ≡ Some state → (next : List Player) × (in_front player more o ≡ Some next)
    front o is = (record player { state = state } ∷ more, ap (in_front player more) is)

-- a world goes on with an entry that the journal can have, and that is the next step of its session
pub grows : (start world : World) (journal : List JournalEntry) (entry : JournalEntry) (state : SessionState)
    → world_after (Some start) journal ≡ Some world → after (Some start.standing) journal ≡ Some world.standing
    → session_after (newest_in start.standing) entry.actor (session_of 1 start.players entry.actor) journal ≡ session_of 1 world.players entry.actor
    → is_some (after (Some start.standing) (journal ++ entry ∷ [])) ≡ true
    → session_after (newest_in start.standing) entry.actor (session_of 1 start.players entry.actor) (journal ++ entry ∷ []) ≡ Some state
    → (next : World) × (world_step world entry ≡ Some next)
grows start world journal entry state whole stood own stands seen =
    let now = newest_in world.standing in
    let there : is_some (after_step world.standing entry.actor entry.step) ≡ true =
    sym (ap is_some (after-append (Some start.standing) journal (entry ∷ []) ∙ ap (λ w. after w (entry ∷ [])) stood)) ∙ stands in
    let came : entry_seen now entry.actor entry (session_of 1 world.players entry.actor) ≡ Some state =
    sym (session_after-append (newest_in start.standing) entry.actor (session_of 1 start.players entry.actor) journal (entry ∷ [])
    ∙ (λ i. entry_seen (after-newest start.standing world.standing journal stood i) entry.actor entry (own i))) ∙ seen in
    let players = players_step-there now 1 world.players entry state came in
    both (after_step world.standing entry.actor entry.step) there players.0 players.1
  where
    both : (o : Option Standing) → is_some o ≡ true → (next : List Player) → players_step (newest_in world.standing) 1 world.players entry ≡ Some next → (w : World) × (world_with o (players_step (newest_in world.standing) 1 world.players entry) ≡ Some w)
    both None h next p = absurd (false≢true h)
    both (Some standing) h next p = (record { standing = standing; players = next }, ap (world_with (Some standing)) p)

-- ---- the item of an entry

module _ (same : SameIsEqual) where
  -- the step that a session makes of what is printed of one is that step
  step_of-again : (now : Newest) (asked : Option SharedStep) (txn : Option OpenTxn) (made : Step) (done : Turned) → turned asked now txn made ≡ Some done → step_of now asked txn (turned_of made) ≡ Some made
  step_of-again now (Some (shared.Begin mode)) None (step.Begin given) done e = ap (λ m. Some (step.Begin m)) (same_mode-is mode given (let_through _ _ done e).0)
  step_of-again now (Some shared.Flush) (Some txn) (step.Flush changes version) done e =
      let t = both_true (same_changes changes txn.own) (same_version version (version_of (flush_there now txn))) (let_through _ _ done e).0 in
      λ i. Some (step.Flush (sym (same_changes-is same changes txn.own t.0) i) (sym (same_version-is version (version_of (flush_there now txn)) t.1) i))
  step_of-again now (Some shared.Revert) (Some txn) step.Revert done e = refl
  step_of-again now (Some shared.End) (Some txn) step.End done e = refl
  step_of-again now (Some shared.Sync) txn step.Sync done e = refl
  step_of-again now asked txn made done e = absurd (none-some done e)

  front_made-again : (now : Newest) (s next : SessionState) (rest : List Statement) (made : Step) → front_taken now s rest made ≡ Some next → without_origin made ≡ made → front_made now s rest (turned_of made) ≡ Some made
  front_made-again now s next [] made e o = absurd (none-some next e)
  front_made-again now s next (statement ∷ more) made e o = asked made o (there (turned (asks_then s.place.due statement.form) now s.txn made) refl e)
    where
      there : (x : Option Turned) → turned (asks_then s.place.due statement.form) now s.txn made ≡ x → stepped s statement more x ≡ Some next → (done : Turned) × (turned (asks_then s.place.due statement.form) now s.txn made ≡ Some done)
      there None is e = absurd (none-some next e)
      there (Some done) is e = (done, is)

      asked : (m : Step) → without_origin m ≡ m → (done : Turned) × (turned (asks_then s.place.due statement.form) now s.txn m ≡ Some done) → front_made now s (statement ∷ more) (turned_of m) ≡ Some m
      asked (step.Begin mode) o d = step_of-again now (asks_then s.place.due statement.form) s.txn (step.Begin mode) d.0 d.1
      asked (step.Flush changes version) o d = step_of-again now (asks_then s.place.due statement.form) s.txn (step.Flush changes version) d.0 d.1
      asked step.Revert o d = step_of-again now (asks_then s.place.due statement.form) s.txn step.Revert d.0 d.1
      asked step.End o d = step_of-again now (asks_then s.place.due statement.form) s.txn step.End d.0 d.1
      asked step.Sync o d = step_of-again now (asks_then s.place.due statement.form) s.txn step.Sync d.0 d.1
      asked (step.Stop line cause origin) o d = ap (λ m. Some m) o

  -- the step that a session took is the one that it makes of what is printed of it
  pub step_made-again : (now : Newest) (s next : SessionState) (made : Step) → session_step now s made ≡ Some next → without_origin made ≡ made → step_made now s (turned_of made) ≡ Some made
  unfolding session_step
  step_made-again now s next made e o = by_step made o (let_on s.place.stopped made e)
    where
      let_on : (b : Bool) (m : Step) → cond b None (Rattle.xod_session.specs.Sessions.step_taken now s m) ≡ Some next → Rattle.xod_session.specs.Sessions.step_taken now s m ≡ Some next
      let_on true m e = absurd (none-some next e)
      let_on false m e = e

      by_step : (m : Step) → without_origin m ≡ m → Rattle.xod_session.specs.Sessions.step_taken now s m ≡ Some next → step_made now s (turned_of m) ≡ Some m
      by_step (step.Stop line cause origin) o e = ap (λ m. Some m) o
      by_step (step.Begin mode) o e = front_made-again now (readied s) next (readied s).place.rest (step.Begin mode) e o
      by_step (step.Flush changes version) o e = front_made-again now (readied s) next (readied s).place.rest (step.Flush changes version) e o
      by_step step.Revert o e = front_made-again now (readied s) next (readied s).place.rest step.Revert e o
      by_step step.End o e = front_made-again now (readied s) next (readied s).place.rest step.End e o
      by_step step.Sync o e = front_made-again now (readied s) next (readied s).place.rest step.Sync e o

  -- an entry of a session is taken as the item that is printed of it
  pub taken-again : (now : Played) (name : List ℕ) (entry : JournalEntry) (come state : SessionState) (next : World)
      → actor_named 1 now.world.players name ≡ Some entry.actor → session_of 1 now.world.players entry.actor ≡ Some come
      → session_step (newest_in now.world.standing) come entry.step ≡ Some state → without_origin entry.step ≡ entry.step → world_step now.world entry ≡ Some next
      → taken now (Turn name (turned_of entry.step)) ≡ Some (record { world = next; journal = now.journal ++ entry ∷ [] })
  unfolding taken
  taken-again now name entry come state next named there stepped own grown =
      let newest = newest_in now.world.standing in
      let made : made_of now.world (Turn name (turned_of entry.step)) ≡ Some entry =
      ap (option_and_then (turn_made newest now.world.players (turned_of entry.step))) named
      ∙ ap (option_and_then (λ session. option_map (entry_of entry.actor) (step_made newest session (turned_of entry.step)))) there
      ∙ ap (option_map (entry_of entry.actor)) (step_made-again newest come state entry.step stepped own) in
      ap (option_and_then (Rattle.xod_session.specs.World.entry_taken now)) made ∙ ap (option_map (Rattle.xod_session.specs.World.played_with now.journal entry)) grown

-- ---- items that can't be taken

-- no session has the name
pub unnamed-untaken : (now : Played) (name : List ℕ) (turn : TurnOf) → actor_named 1 now.world.players name ≡ None → taken now (Turn name turn) ≡ None
unfolding taken
unnamed-untaken now name turn none = ap (λ o. option_and_then (Rattle.xod_session.specs.World.entry_taken now) (option_and_then (turn_made (newest_in now.world.standing) now.world.players turn) o)) none

-- each entry that the session could make of the item does not stand
pub untaken : (now : Played) (name : List ℕ) (turn : TurnOf) (actor : ℕ) (come : SessionState)
    → actor_named 1 now.world.players name ≡ Some actor → session_of 1 now.world.players actor ≡ Some come
    → ((made : Step) → step_made (newest_in now.world.standing) come turn ≡ Some made → world_step now.world (entry_of actor made) ≡ None)
    → taken now (Turn name turn) ≡ None
unfolding taken
untaken now name turn actor come named there none =
    ap (option_and_then (Rattle.xod_session.specs.World.entry_taken now))
    (ap (option_and_then (turn_made (newest_in now.world.standing) now.world.players turn)) named
    ∙ ap (option_and_then (λ session. option_map (entry_of actor) (step_made (newest_in now.world.standing) session turn))) there)
    ∙ by_step (step_made (newest_in now.world.standing) come turn) none
  where
    by_step : (o : Option Step) → ((made : Step) → o ≡ Some made → world_step now.world (entry_of actor made) ≡ None)
        → option_and_then (Rattle.xod_session.specs.World.entry_taken now) (option_map (entry_of actor) o) ≡ None
    by_step None h = refl
    by_step (Some made) h = ap (option_map (Rattle.xod_session.specs.World.played_with now.journal (entry_of actor made))) (h made refl)

-- an entry that is not the next step of its session does not stand
players_step-none : (now : Newest) (k : ℕ) (players : List Player) (entry : JournalEntry) (come : SessionState)
    → session_of k players entry.actor ≡ Some come → session_step now come entry.step ≡ None → players_step now k players entry ≡ None
players_step-none now k [] entry come there none = refl
players_step-none now k (player ∷ more) entry come there none =
    elim (entry.actor == k) as (λ p. cond p (Some player.state) (session_of (k + 1) more entry.actor) ≡ Some come
    → cond p (in_front player more (session_step now player.state entry.step)) (beside player (players_step now (k + 1) more entry)) ≡ None) [
      | true ↦ λ is. ap (in_front player more) (ap (λ s. session_step now s entry.step) (same_Some _ _ is) ∙ none)
      | false ↦ λ is. ap (beside player) (players_step-none now (k + 1) more entry come is none)
    ] there

pub unstepped : (world : World) (entry : JournalEntry) (come : SessionState) → session_of 1 world.players entry.actor ≡ Some come
    → session_step (newest_in world.standing) come entry.step ≡ None → world_step world entry ≡ None
unstepped world entry come there none = ap (world_with (after_step world.standing entry.actor entry.step)) (players_step-none (newest_in world.standing) 1 world.players entry come there none) ∙ neither (after_step world.standing entry.actor entry.step)
  where
    neither : (o : Option Standing) → world_with o None ≡ None
    neither None = refl
    neither (Some standing) = refl

-- an entry that the journal can't have does not stand
pub unbooked : (world : World) (entry : JournalEntry) → after_step world.standing entry.actor entry.step ≡ None → world_step world entry ≡ None
unbooked world entry none = ap (λ o. world_with o (players_step (newest_in world.standing) 1 world.players entry)) none

-- ---- an order

pub all_taken-push : (now : Option Played) (items : List Item) (item : Item) → all_taken now (items ++ item ∷ []) ≡ option_and_then (λ here. taken here item) (all_taken now items)
all_taken-push now [] item = refl
all_taken-push now (first ∷ items) item = all_taken-push (option_and_then (λ here. taken here first) now) items item

all_taken-none : (items : List Item) → all_taken None items ≡ None
all_taken-none [] = refl
all_taken-none (item ∷ more) = all_taken-none more

-- an order whose first items were taken goes on from there
pub played_from-taken : (number : ℕ) (now next : Played) (items rest : List Item) → all_taken (Some now) items ≡ Some next → played_from number now (items ++ rest) ≡ played_from (number + length items) next rest
played_from-taken number now next [] rest e = λ i. played_from (zero_more i) (same_Some _ _ e i) rest
  where
    zero_more : number ≡ number + 0
    zero_more = omega arith
played_from-taken number now next (item ∷ items) rest e =
    elim (taken now item) as (λ o. taken now item ≡ o → all_taken o items ≡ Some next → item_played number o (λ here. played_from (number + 1) here (items ++ rest)) ≡ played_from (number + suc (length items)) next rest) [
      | None ↦ λ is e. absurd (none-some next (sym (all_taken-none items) ∙ e))
      | Some here ↦ λ is e. played_from-taken (number + 1) here next items rest e ∙ ap (λ n. played_from n next rest) one_more
    ] refl e
  where
    one_more : (number + 1) + length items ≡ number + suc (length items)
    one_more = omega arith

pub order-untaken : (start : World) (items more : List Item) (item : Item) (now : Played) → all_taken (Some (record { world = start; journal = [] })) items ≡ Some now → taken now item ≡ None
    → order_played start (items ++ item ∷ more) ≡ Err (1 + length items)
order-untaken start items more item now e none =
    played_from-taken 1 (record { world = start; journal = [] }) now items (item ∷ more) e ∙ ap (λ o. item_played (1 + length items) o (λ here. played_from ((1 + length items) + 1) here more)) none

pub order-over : (start : World) (items : List Item) (now : Played) → all_taken (Some (record { world = start; journal = [] })) items ≡ Some now → order_played start items ≡ ended (1 + length items) now
order-over start items now e = ap (order_played start) (sym (append-nil items)) ∙ played_from-taken 1 (record { world = start; journal = [] }) now items [] e
