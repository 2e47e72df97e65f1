-- Journals that are printed alike are equal, but for where their stops come from.
use Rattle.std.proofs.Common.{◌≡◌, ℕ, ◌+◌, ◌≤◌, true, false, cond, List, [], ◌∷◌, map, Option, Some, None, refl, sym, ap, subst, ◌∙◌, eqb-true, arith, length, suc}
use Rattle.std.specs.Prelude.{◌==◌, not, is_some}
use Rattle.std.proofs.lemmas.Option.{none-some}
use Rattle.std.proofs.lemmas.Bool.{eqb-false, false≢true}
use Rattle.std.proofs.lemmas.List.{length-map}
use Rattle.xod_base.specs.declared.query.Mode.{Mode}
use Rattle.xod_base.specs.Rows.{are_distinct, is_listed, number_of, one_further}
use Rattle.xod_base.specs.Values.{same_bytes}
use Rattle.xod_lang.specs.declared.script.Item.{Item}
use Rattle.xod_lang.specs.declared.script.Statement.{Statement}
use Rattle.xod_journal.specs.declared.change.RowChange.{RowChange}
use Rattle.xod_journal.specs.declared.journal.JournalEntry.{JournalEntry}
use Rattle.xod_journal.specs.declared.journal.Origin.TheVariants.{Order}
use Rattle.xod_journal.specs.declared.journal.Step.{Step}
use Rattle.xod_journal.specs.declared.journal.Step.TheVariants as step
use Rattle.xod_journal.specs.Books.{booked, same_version, version_of}
use Rattle.xod_journal.specs.Laws.{SameIsEqual}
use Rattle.xod_journal.specs.Standing.{Newest, Standing, after_step}
use Rattle.xod_journal.specs.Txns.{OpenTxn}
use Rattle.xod_session.specs.declared.course.SharedStep.{SharedStep}
use Rattle.xod_session.specs.declared.course.SharedStep.TheVariants as shared
use Rattle.xod_session.specs.Laws.{entry_without_origin, without_origin}
use Rattle.xod_session.specs.Sessions.{front_taken, readied, session_step, step_taken, stepped}
use Rattle.xod_session.specs.States.{SessionState}
use Rattle.xod_session.specs.Transcripts.{item_of, name_of, names_of, turned_of}
use Rattle.xod_session.specs.Turns.{Turned, asks_then, flush_there, flush_turned, same_changes, same_mode, turned}
use Rattle.xod_session.specs.World.{Player, World, beside, in_front, newest_in, players_step, world_after, world_step, world_with}
use Rattle.xod_session.proofs.OptionLemmas.{both_true, let_through}
use Rattle.xod_session.proofs.SameLemmas.{same_bytes-refl, same_changes-is, same_mode-is, same_version-is}
use Rattle.xod_session.proofs.WorldLemmas.{beside-some, in_front-some, players_step-names, world_after-none, world_stepped}

-- ---- steps of one session

turned-begin : (asked : Option SharedStep) (now : Newest) (txn : Option OpenTxn) (a b : Mode) (x y : Turned) → turned asked now txn (step.Begin a) ≡ Some x → turned asked now txn (step.Begin b) ≡ Some y → a ≡ b
turned-begin (Some (shared.Begin mode)) now None a b x y p q =
    sym (same_mode-is mode a (let_through (same_mode mode a) _ x p).0) ∙ same_mode-is mode b (let_through (same_mode mode b) _ y q).0
turned-begin None now None a b x y p q = absurd (none-some x p)
turned-begin None now (Some txn) a b x y p q = absurd (none-some x p)
turned-begin (Some (shared.Begin mode)) now (Some txn) a b x y p q = absurd (none-some x p)
turned-begin (Some shared.Flush) now None a b x y p q = absurd (none-some x p)
turned-begin (Some shared.Flush) now (Some txn) a b x y p q = absurd (none-some x p)
turned-begin (Some shared.Revert) now None a b x y p q = absurd (none-some x p)
turned-begin (Some shared.Revert) now (Some txn) a b x y p q = absurd (none-some x p)
turned-begin (Some shared.End) now None a b x y p q = absurd (none-some x p)
turned-begin (Some shared.End) now (Some txn) a b x y p q = absurd (none-some x p)
turned-begin (Some shared.Sync) now None a b x y p q = absurd (none-some x p)
turned-begin (Some shared.Sync) now (Some txn) a b x y p q = absurd (none-some x p)

module _ (same : SameIsEqual) where
  flush_turned-step : (now : Newest) (txn : OpenTxn) (changes : List RowChange) (version : Option ℕ) (done : Turned) → flush_turned now txn changes version ≡ Some done
      → (changes ≡ txn.own) × (version ≡ version_of (flush_there now txn))
  flush_turned-step now txn changes version done e =
      let t = both_true (same_changes changes txn.own) (same_version version (version_of (flush_there now txn))) (let_through _ _ done e).0 in
      (same_changes-is same changes txn.own t.0, same_version-is version (version_of (flush_there now txn)) t.1)

  turned-flush : (asked : Option SharedStep) (now : Newest) (txn : Option OpenTxn) (c d : List RowChange) (v w : Option ℕ) (x y : Turned) → turned asked now txn (step.Flush c v) ≡ Some x → turned asked now txn (step.Flush d w) ≡ Some y
      → step.Flush c v ≡ step.Flush d w
  turned-flush (Some shared.Flush) now (Some txn) c d v w x y p q =
      let s = flush_turned-step now txn c v x p in
      let t = flush_turned-step now txn d w y q in
      λ i. step.Flush ((s.0 ∙ sym t.0) i) ((s.1 ∙ sym t.1) i)
  turned-flush None now None c d v w x y p q = absurd (none-some x p)
  turned-flush None now (Some txn) c d v w x y p q = absurd (none-some x p)
  turned-flush (Some (shared.Begin mode)) now None c d v w x y p q = absurd (none-some x p)
  turned-flush (Some (shared.Begin mode)) now (Some txn) c d v w x y p q = absurd (none-some x p)
  turned-flush (Some shared.Flush) now None c d v w x y p q = absurd (none-some x p)
  turned-flush (Some shared.Revert) now None c d v w x y p q = absurd (none-some x p)
  turned-flush (Some shared.Revert) now (Some txn) c d v w x y p q = absurd (none-some x p)
  turned-flush (Some shared.End) now None c d v w x y p q = absurd (none-some x p)
  turned-flush (Some shared.End) now (Some txn) c d v w x y p q = absurd (none-some x p)
  turned-flush (Some shared.Sync) now None c d v w x y p q = absurd (none-some x p)
  turned-flush (Some shared.Sync) now (Some txn) c d v w x y p q = absurd (none-some x p)

  pub stepped-some : (s next : SessionState) (statement : Statement) (more : List Statement) (o : Option Turned) → stepped s statement more o ≡ Some next → (x : Turned) × (o ≡ Some x)
  stepped-some s next statement more None e = absurd (none-some next e)
  stepped-some s next statement more (Some x) e = (x, refl)

  front-begin : (now : Newest) (s : SessionState) (rest : List Statement) (a b : Mode) (x y : SessionState) → front_taken now s rest (step.Begin a) ≡ Some x → front_taken now s rest (step.Begin b) ≡ Some y → a ≡ b
  front-begin now s [] a b x y p q = absurd (none-some x p)
  front-begin now s (statement ∷ more) a b x y p q =
      let n = asks_then s.place.due statement.form in
      let u = stepped-some s x statement more (turned n now s.txn (step.Begin a)) p in
      let v = stepped-some s y statement more (turned n now s.txn (step.Begin b)) q in
      turned-begin n now s.txn a b u.0 v.0 u.1 v.1

  front-flush : (now : Newest) (s : SessionState) (rest : List Statement) (c d : List RowChange) (v w : Option ℕ) (x y : SessionState) → front_taken now s rest (step.Flush c v) ≡ Some x → front_taken now s rest (step.Flush d w) ≡ Some y
      → step.Flush c v ≡ step.Flush d w
  front-flush now s [] c d v w x y p q = absurd (none-some x p)
  front-flush now s (statement ∷ more) c d v w x y p q =
      let n = asks_then s.place.due statement.form in
      let a = stepped-some s x statement more (turned n now s.txn (step.Flush c v)) p in
      let b = stepped-some s y statement more (turned n now s.txn (step.Flush d w)) q in
      turned-flush n now s.txn c d v w a.0 b.0 a.1 b.1

  taken-same : (now : Newest) (s x y : SessionState) (a b : Step) → step_taken now s a ≡ Some x → step_taken now s b ≡ Some y → turned_of a ≡ turned_of b → without_origin a ≡ without_origin b
  taken-same now s x y (step.Begin a) (step.Begin b) p q e = ap step.Begin (front-begin now (readied s) (readied s).place.rest a b x y p q)
  taken-same now s x y (step.Flush c v) (step.Flush d w) p q e = ap without_origin (front-flush now (readied s) (readied s).place.rest c d v w x y p q)
  taken-same now s x y step.Revert step.Revert p q e = refl
  taken-same now s x y step.End step.End p q e = refl
  taken-same now s x y step.Sync step.Sync p q e = refl
  taken-same now s x y (step.Stop l c o) (step.Stop m d u) p q e = let line : l ≡ m = cc in let cause : c ≡ d = cc in λ i. step.Stop (line i) (cause i) Order
  taken-same now s x y a b p q e = absurd cc

  step-same : (now : Newest) (s x y : SessionState) (a b : Step) → session_step now s a ≡ Some x → session_step now s b ≡ Some y → turned_of a ≡ turned_of b → without_origin a ≡ without_origin b
  unfolding session_step
  step-same now s x y a b p q e =
      elim s.place.stopped as (λ k. cond k None (step_taken now s a) ≡ Some x → cond k None (step_taken now s b) ≡ Some y → without_origin a ≡ without_origin b) [
        | true ↦ λ p q. absurd (none-some x p)
        | false ↦ λ p q. taken-same now s x y a b p q e
      ] p q

  pub players-same : (now : Newest) (k : ℕ) (players x y : List Player) (actor : ℕ) (a b : Step) → players_step now k players (record { actor = actor; step = a }) ≡ Some x → players_step now k players (record { actor = actor; step = b }) ≡ Some y
      → turned_of a ≡ turned_of b → without_origin a ≡ without_origin b
  players-same now k [] x y actor a b p q e = absurd (none-some x p)
  players-same now k (s ∷ more) x y actor a b p q e =
      elim (actor == k) as (λ t. cond t (in_front s more (session_step now s.state a)) (beside s (players_step now (k + 1) more (record { actor = actor; step = a }))) ≡ Some x
      → cond t (in_front s more (session_step now s.state b)) (beside s (players_step now (k + 1) more (record { actor = actor; step = b }))) ≡ Some y → without_origin a ≡ without_origin b) [
        | true ↦ λ p q. let u = in_front-some s more x (session_step now s.state a) p in let v = in_front-some s more y (session_step now s.state b) q in step-same now s.state u.0 v.0 a b u.1 v.1 e
        | false ↦ λ p q. let u = beside-some s x (players_step now (k + 1) more (record { actor = actor; step = a })) p in let v = beside-some s y (players_step now (k + 1) more (record { actor = actor; step = b })) q in
            players-same now (k + 1) more u.0 v.0 actor a b u.1 v.1 e
      ] p q

-- another origin makes the same step of a session
pub taken-origin : (now : Newest) (s : SessionState) (a : Step) → session_step now s a ≡ session_step now s (without_origin a)
unfolding session_step
taken-origin now s (step.Begin mode) = refl
taken-origin now s (step.Flush changes version) = refl
taken-origin now s step.Revert = refl
taken-origin now s step.End = refl
taken-origin now s step.Sync = refl
taken-origin now s (step.Stop line cause origin) = refl

-- ---- actors and names

in_range : (now : Newest) (k : ℕ) (players next : List Player) (entry : JournalEntry) → players_step now k players entry ≡ Some next → (k ≤ entry.actor) × (entry.actor + 1 ≤ k + length players)
in_range now k [] next entry e = absurd (none-some next e)
in_range now k (s ∷ more) next entry e =
    elim (entry.actor == k) as (λ t. (entry.actor == k) ≡ t → cond t (in_front s more (session_step now s.state entry.step)) (beside s (players_step now (k + 1) more entry)) ≡ Some next → (k ≤ entry.actor) × (entry.actor + 1 ≤ k + suc (length more))) [
      | true ↦ λ own e. let is = eqb-true entry.actor k own in (omega arith, omega arith)
      | false ↦ λ other e. let r = in_range now (k + 1) more (beside-some s next (players_step now (k + 1) more entry) e).0 entry (beside-some s next (players_step now (k + 1) more entry) e).1 in (omega arith, omega arith)
    ] refl e

still_listed : (names : List (List ℕ)) (first name : List ℕ) → is_listed names name ≡ true → is_listed (first ∷ names) name ≡ true
still_listed names first name is =
    elim (same_bytes first name) as (λ b. is_some (cond b (Some 0) (one_further (number_of names name))) ≡ true) [
      | true ↦ refl
      | false ↦ elim (number_of names name) as (λ o. is_some o ≡ true → is_some (one_further o) ≡ true) [ None ↦ λ no. absurd (false≢true no) | Some n ↦ λ yes. refl ] is
    ]

above : (j k : ℕ) → (j == k) ≡ false → k ≤ j → k + 1 ≤ j
above j k other least = elim (j == k) as (λ t. (j == k) ≡ t → t ≡ false → k + 1 ≤ j) [ true ↦ λ is no. absurd (false≢true (sym no)) | false ↦ λ is no. omega (arith, eqb-false j k other) ] refl other

name_of-listed : (k : ℕ) (names : List (List ℕ)) (j : ℕ) → k ≤ j → j + 1 ≤ k + length names → is_listed names (name_of k names j) ≡ true
name_of-listed k [] j least most = absurd (omega arith)
name_of-listed k (first ∷ more) j least most =
    elim (j == k) as (λ t. (j == k) ≡ t → is_listed (first ∷ more) (cond t first (name_of (k + 1) more j)) ≡ true) [
      | true ↦ λ own. ap (λ b. is_some (cond b (Some 0) (one_further (number_of more first)))) (same_bytes-refl first)
      | false ↦ λ other. still_listed more first (name_of (k + 1) more j) (name_of-listed (k + 1) more j (above j k other least) (omega arith))
    ] refl

name_of-distinct : (k : ℕ) (names : List (List ℕ)) (i j : ℕ) → are_distinct names ≡ true → k ≤ i → i + 1 ≤ k + length names → k ≤ j → j + 1 ≤ k + length names → name_of k names i ≡ name_of k names j → i ≡ j
name_of-distinct k [] i j distinct li mi lj mj e = absurd (omega arith)
name_of-distinct k (first ∷ more) i j distinct li mi lj mj e =
    let d = both_true (not (is_listed more first)) (are_distinct more) distinct in
    let alone : (m : ℕ) → k + 1 ≤ m → m + 1 ≤ k + 1 + length more → first ≡ name_of (k + 1) more m → ⊥ =
    λ m least most is. false≢true (sym (ap not (ap (is_listed more) is ∙ name_of-listed (k + 1) more m least most)) ∙ d.0) in
    elim (i == k) as (λ t. (i == k) ≡ t → cond t first (name_of (k + 1) more i) ≡ cond (j == k) first (name_of (k + 1) more j) → i ≡ j) [
      | true ↦ λ own e. elim (j == k) as (λ t. (j == k) ≡ t → first ≡ cond t first (name_of (k + 1) more j) → i ≡ j) [
        | true ↦ λ own2 e. eqb-true i k own ∙ sym (eqb-true j k own2)
        | false ↦ λ other e. absurd (alone j (above j k other lj) (omega arith) e)
      ] refl e
      | false ↦ λ other e. elim (j == k) as (λ t. (j == k) ≡ t → name_of (k + 1) more i ≡ cond t first (name_of (k + 1) more j) → i ≡ j) [
        | true ↦ λ own e. absurd (alone i (above i k other li) (omega arith) (sym e))
        | false ↦ λ other2 e. name_of-distinct (k + 1) more i j d.1 (above i k other li) (omega arith) (above j k other2 lj) (omega arith) e
      ] refl e
    ] refl e

-- ---- entries of a world

after-origin : (now : Standing) (actor : ℕ) (a : Step) → after_step now actor a ≡ after_step now actor (without_origin a)
unfolding after_step booked
after-origin now actor (step.Begin mode) = refl
after-origin now actor (step.Flush changes version) = refl
after-origin now actor step.Revert = refl
after-origin now actor step.End = refl
after-origin now actor step.Sync = refl
after-origin now actor (step.Stop line cause origin) = refl

players-origin : (now : Newest) (k : ℕ) (players : List Player) (actor : ℕ) (a : Step) → players_step now k players (record { actor = actor; step = a }) ≡ players_step now k players (record { actor = actor; step = without_origin a })
players-origin now k [] actor a = refl
players-origin now k (s ∷ more) actor a = λ i. cond (actor == k) (in_front s more (taken-origin now s.state a i)) (beside s (players-origin now (k + 1) more actor a i))

world-origin : (world : World) (entry : JournalEntry) → world_step world entry ≡ world_step world (entry_without_origin entry)
world-origin world entry = λ i. world_with (after-origin world.standing entry.actor entry.step i) (players-origin (newest_in world.standing) 1 world.players entry.actor entry.step i)

entry-same : SameIsEqual → (start world x y : World) (a b : JournalEntry) → are_distinct (names_of start) ≡ true → names_of world ≡ names_of start → world_step world a ≡ Some x → world_step world b ≡ Some y → item_of (names_of start) a ≡ item_of (names_of start) b
    → entry_without_origin a ≡ entry_without_origin b
entry-same same start world x y a b distinct names p q e =
    let u = world_stepped world x a p in
    let v = world_stepped world y b q in
    let ra = in_range (newest_in world.standing) 1 world.players x.players a u.players in
    let rb = in_range (newest_in world.standing) 1 world.players y.players b v.players in
    let long : length (names_of start) ≡ length world.players = ap length (sym names) ∙ length-map world.players (λ player. player.name) in
    let name : name_of 1 (names_of start) a.actor ≡ name_of 1 (names_of start) b.actor = cc in
    let turn : turned_of a.step ≡ turned_of b.step = cc in
    let actor : a.actor ≡ b.actor = name_of-distinct 1 (names_of start) a.actor b.actor distinct ra.0 (omega arith) rb.0 (omega arith) name in
    let st = players-same same (newest_in world.standing) 1 world.players x.players y.players a.actor a.step b.step u.players
    (subst (λ n. players_step (newest_in world.standing) 1 world.players (record { actor = n; step = b.step }) ≡ Some y.players) (sym actor) v.players) turn in
    λ i. record { actor = actor i; step = st i }

there : (o : Option World) (journal : List JournalEntry) (x : World) → world_after o journal ≡ Some x → (w : World) × (o ≡ Some w)
there None journal x e = absurd (none-some x (sym (world_after-none journal) ∙ e))
there (Some w) journal x e = (w, refl)

head-same : (a b : Item) (more others : List Item) → ◌≡◌ {A = List Item} (a ∷ more) (b ∷ others) → (a ≡ b) × (more ≡ others)
head-same a b more others e = (cc, cc)

goes_on-same : SameIsEqual → (start world : World) (journal other : List JournalEntry) (now later : World) → are_distinct (names_of start) ≡ true → names_of world ≡ names_of start
    → world_after (Some world) journal ≡ Some now → world_after (Some world) other ≡ Some later
    → map (item_of (names_of start)) journal ≡ map (item_of (names_of start)) other → map entry_without_origin journal ≡ map entry_without_origin other
goes_on-same same start world [] [] now later distinct names p q e = refl
goes_on-same same start world [] (b ∷ other) now later distinct names p q e = absurd cc
goes_on-same same start world (a ∷ journal) [] now later distinct names p q e = absurd cc
goes_on-same same start world (a ∷ journal) (b ∷ other) now later distinct names p q e =
    let I = item_of (names_of start) in
    let h = head-same (I a) (I b) (map I journal) (map I other) e in
    let u = there (world_step world a) journal now p in
    let v = there (world_step world b) other later q in
    let entry = entry-same same start world u.0 v.0 a b distinct names u.1 v.1 h.0 in
    let one : world_step world b ≡ Some u.0 = world-origin world b ∙ ap (world_step world) (sym entry) ∙ sym (world-origin world a) ∙ u.1 in
    let g = world_stepped world u.0 a u.1 in
    let rest = goes_on-same same start u.0 journal other now later distinct (players_step-names (newest_in world.standing) 1 world.players u.0.players a g.players ∙ names)
    (subst (λ o. world_after o journal ≡ Some now) u.1 p) (subst (λ o. world_after o other ≡ Some later) one q) h.1 in
    λ i. entry i ∷ rest i

pub order-determines : SameIsEqual → (start : World) (journal other : List JournalEntry) (now later : World) → are_distinct (names_of start) ≡ true → world_after (Some start) journal ≡ Some now → world_after (Some start) other ≡ Some later
    → map (item_of (names_of start)) journal ≡ map (item_of (names_of start)) other → map entry_without_origin journal ≡ map entry_without_origin other
order-determines same start journal other now later distinct p q e = goes_on-same same start start journal other now later distinct refl p q e
