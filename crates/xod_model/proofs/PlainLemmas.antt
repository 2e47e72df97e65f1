-- What a step leaves of what a store in lists keeps.
use Rattle.std.proofs.Common.{◌≡◌, ◌≤◌, ◌<◌, ℕ, ◌+◌, Bool, true, false, List, [], ◌∷◌, ◌++◌, Option, Some, None, refl, sym, ap, subst, ◌∙◌, arith, length, eqb-true, eq-eqb}
use Rattle.std.specs.Prelude.{option_and_then, option_map, ◌==◌, IsTrue, Result, IfErr, IsErrAnd}
use Rattle.std.proofs.lemmas.Result.{err_from_is_err_and}
use Rattle.std.specs.Ordering.{nat_cmp}
use Rattle.std.specs.FinMap.{FinMap, empty, insert, remove, entries}
use Rattle.std.proofs.lemmas.Bool.{false≢true}
use Rattle.std.proofs.lemmas.Option.{none-some, same_Some}
use Rattle.xod_base.specs.Rows.{RowsValue, is_sound}
use Rattle.xod_base.specs.declared.answer.FlushAnswer.{FlushAnswer}
use Rattle.xod_base.specs.declared.answer.FlushAnswer.TheVariants as answer
use Rattle.xod_base.specs.declared.causes.Cause.{Cause}
use Rattle.xod_base.specs.declared.causes.Cause.TheVariants as cause
use Rattle.xod_base.specs.declared.query.Mode.{Mode}
use Rattle.xod_journal.specs.declared.change.RowChange.{RowChange}
use Rattle.xod_journal.specs.Books.{committed, flush_answer, holder, holder_among, unpinned, version_of}
use Rattle.xod_journal.specs.Changes.{all_applied}
use Rattle.xod_journal.specs.Begins.{DoesNotBegin}
use Rattle.xod_journal.specs.declared.space.BeginFault.{BeginFault}
use Rattle.xod_journal.specs.declared.space.BeginFault.TheVariants as begin
use Rattle.xod_journal.specs.Seats.{books_after, busy_of, entered, is_over, seat_of}
use Rattle.xod_journal.specs.Spaces.{CanStop, IsMet, IsOpen, SpaceView, device_stops, faults_in, is_device_stop}
use Rattle.xod_journal.specs.Standing.{Newest, Standing, after, moved, newest_after, opening}
use Rattle.xod_journal.specs.Txns.{OpenTxn, pinned_of, txn_at}
use Rattle.xod_journal.specs.declared.journal.JournalEntry.{JournalEntry}
use Rattle.xod_journal.specs.declared.journal.Origin.{Origin}
use Rattle.xod_journal.specs.declared.journal.Origin.TheVariants as origin
use Rattle.xod_journal.specs.declared.journal.Pinned.{Pinned}
use Rattle.xod_journal.specs.declared.journal.Step.{Step}
use Rattle.xod_journal.specs.declared.journal.Step.TheVariants as step
use Rattle.xod_journal.proofs.CallerLemmas.{after-booked, after-newest, device_stops-entered, goes-begun, goes-ended, goes-flushed, goes-reverted, goes-stopped, goes-synced, newest-held, seat-going, seat-open, stands-seat}
use Rattle.xod_model.specs.Plain.{Keeps, going, kept_of, plain_view, still_going}
use Rattle.xod_model.proofs.GoingLemmas.{going-stopped, still_going-most}

-- The journal has one entry more, and still room for a stop of each session.
pub record Grown (journal : List JournalEntry) (used sessions : ℕ) (actor : ℕ) (step : Step) (grown : List JournalEntry) (longer wider : ℕ) : Type 0 where
  pub entry : grown ≡ entered journal actor step
  pub space : used + (sessions + 1) ≤ wider
  pub one : longer ≡ used + 1

-- room was made, and then the entry was put there
pub pushed : (journal widened grown : List JournalEntry) (used held longer sessions room wider : ℕ) (actor : ℕ) (step : Step) → widened ≡ journal → held ≡ used → held + (sessions + 1) ≤ room
    → grown ≡ widened ++ record { actor = actor; step = step } ∷ [] → longer ≡ held + 1 → wider ≡ room → Grown journal used sessions actor step grown longer wider
pushed journal widened grown used held longer sessions room wider actor step items len space put longer_is wider_is =
    record { entry = put ∙ ap (λ j. entered j actor step) items; space = omega arith; one = longer_is ∙ ap (λ n. n + 1) len }

-- where the journal stands
record Was (start : Newest) (journal : List JournalEntry) (commit : ℕ) (txns : FinMap nat_cmp Pinned) (rows : RowsValue) : Type 0 where
  now : Standing
  stands : after (Some (opening start)) journal ≡ Some now
  kept : kept_of now ≡ (commit, (txns, rows))
  books : books_after start journal ≡ Some now.books

module _ (start : Newest) (journal : List JournalEntry) (commit : ℕ) (txns : FinMap nat_cmp Pinned) (rows : RowsValue) (sessions used room : ℕ) (keeps : Keeps start journal commit txns rows sessions used room) where
  was : Was start journal commit txns rows
  was = elim (after (Some (opening start)) journal) as (λ o. after (Some (opening start)) journal ≡ o → option_map kept_of o ≡ Some (commit, (txns, rows)) → Was start journal commit txns rows) [
    | None ↦ λ is kept. absurd (none-some _ kept)
    | Some now ↦ λ is kept. record { now = now; stands = is; kept = same_Some _ _ kept; books = after-booked (opening start) now journal is }
  ] refl keeps.stands

  -- ---- what it is asked

  pub plain-newest : newest_after start journal ≡ record { rows = rows; commit = commit }
  plain-newest = let w = was in after-newest (opening start) w.now journal w.stands ∙ (λ i. record { rows = (w.kept i).1.1; commit = (w.kept i).0 })

  pub plain-busy : (mode : Mode) → busy_of start journal mode ≡ holder_among mode (entries txns)
  plain-busy mode = let w = was in ap (option_and_then (λ books. holder books mode)) w.books ∙ (λ i. holder_among mode (entries (w.kept i).1.0))

  pub plain-txn : (mode : Mode) (begun : RowsValue) (own : List RowChange) (shared : RowsValue) → begun ≡ shared → own ≡ [] → shared ≡ rows
      → record { mode = mode; base = commit; begun = begun; own = own; rows = shared } ≡ txn_at mode (newest_after start journal)
  plain-txn mode begun own shared there none same =
      let newest = sym plain-newest in
      let rows_are = same ∙ ap (λ (n : Newest). n.rows) newest in
      λ i. record { mode = mode; base = (newest i).commit; begun = (there ∙ rows_are) i; own = none i; rows = rows_are i }

  -- ---- a step that is no stop

  module _ (grown : List JournalEntry) (longer wider actor : ℕ) (step : Step) (g : Grown journal used sessions actor step grown longer wider) where
    on : (next : Standing) (commit2 : ℕ) (txns2 : FinMap nat_cmp Pinned) (rows2 : RowsValue) → is_device_stop step ≡ false → after (Some (opening start)) (entered journal actor step) ≡ Some next → kept_of next ≡ (commit2, (txns2, rows2))
        → Keeps start grown commit2 txns2 rows2 sessions longer wider
    on next commit2 txns2 rows2 quiet goes kept =
        let most = still_going-most sessions (books_after start grown) in
        record {
          stands = ap (λ j. option_map kept_of (after (Some (opening start)) j)) g.entry ∙ ap (option_map kept_of) goes ∙ ap Some kept;
          has_room = omega arith;
          undisturbed = ap device_stops g.entry ∙ device_stops-entered journal actor step quiet ∙ keeps.undisturbed;
          sound = keeps.sound;
        }

  -- ---- the steps

  module _ (grown : List JournalEntry) (longer wider actor : ℕ) where
    pub keeps-begun : (mode : Mode) (txns2 : FinMap nat_cmp Pinned) → seat_of start journal actor ≡ Some (false, None) → holder_among mode (entries txns) ≡ None
        → txns2 ≡ insert txns actor (record { mode = mode; base = commit }) → Grown journal used sessions actor (step.Begin mode) grown longer wider → Keeps start grown commit txns2 rows sessions longer wider
    keeps-begun mode txns2 seat free put g =
        let w = was in
        on grown longer wider actor (step.Begin mode) g _ commit txns2 rows refl
        (goes-begun start journal w.now w.stands actor None seat mode refl ((λ i. holder_among mode (entries (w.kept i).1.0)) ∙ free))
        ((λ i. ((w.kept i).0, (insert (w.kept i).1.0 actor (record { mode = mode; base = (w.kept i).0 }), (w.kept i).1.1))) ∙ (λ i. (commit, (sym put i, rows))))

    pub keeps-reverted : (held : Pinned) (txns2 : FinMap nat_cmp Pinned) → seat_of start journal actor ≡ Some (false, Some held)
        → txns2 ≡ insert txns actor (record { mode = held.mode; base = commit }) → Grown journal used sessions actor step.Revert grown longer wider → Keeps start grown commit txns2 rows sessions longer wider
    keeps-reverted held txns2 seat put g =
        let w = was in
        on grown longer wider actor step.Revert g _ commit txns2 rows refl
        (goes-reverted start journal w.now w.stands actor (Some held) seat held refl)
        ((λ i. ((w.kept i).0, (insert (w.kept i).1.0 actor (record { mode = held.mode; base = (w.kept i).0 }), (w.kept i).1.1))) ∙ (λ i. (commit, (sym put i, rows))))

    pub keeps-ended : (held : Pinned) (txns2 : FinMap nat_cmp Pinned) → seat_of start journal actor ≡ Some (false, Some held) → txns2 ≡ remove txns actor → Grown journal used sessions actor step.End grown longer wider
        → Keeps start grown commit txns2 rows sessions longer wider
    keeps-ended held txns2 seat out g =
        let w = was in
        on grown longer wider actor step.End g _ commit txns2 rows refl
        (goes-ended start journal w.now w.stands actor (Some held) seat held refl)
        ((λ i. ((w.kept i).0, (remove (w.kept i).1.0 actor, (w.kept i).1.1))) ∙ (λ i. (commit, (sym out i, rows))))

    pub keeps-synced : option_map is_over (seat_of start journal actor) ≡ Some false → Grown journal used sessions actor step.Sync grown longer wider → Keeps start grown commit txns rows sessions longer wider
    keeps-synced going g =
        let w = was in
        let s = seat-going (seat_of start journal actor) going in
        on grown longer wider actor step.Sync g _ commit txns rows refl (goes-synced start journal w.now w.stands actor s.0 s.1) w.kept

    module _ (held : OpenTxn) (is_open : IsOpen (plain_view start journal commit sessions) actor true held) where
      answer_here : (answered : FlushAnswer) → flush_answer commit held.base held.own ≡ answered → flush_answer was.now.books.commit held.base held.own ≡ answered
      answer_here answered is = let w = was in (λ i. flush_answer (w.kept i).0 held.base held.own) ∙ is

      pub keeps-unchanged : (answered : FlushAnswer) → flush_answer commit held.base held.own ≡ answered → version_of answered ≡ None → Grown journal used sessions actor (step.Flush held.own None) grown longer wider
          → Keeps start grown commit txns rows sessions longer wider
      keeps-unchanged answered is none g =
          let w = was in
          let kept : kept_of (moved w.now actor (step.Flush held.own (version_of answered)) (committed w.now.books actor (pinned_of held) (version_of answered))) ≡ (commit, (txns, rows)) =
          subst (λ v. kept_of (moved w.now actor (step.Flush held.own v) (committed w.now.books actor (pinned_of held) v)) ≡ (commit, (txns, rows))) (sym none) w.kept in
          on grown longer wider actor (step.Flush held.own (version_of answered)) (subst (λ v. Grown journal used sessions actor (step.Flush held.own v) grown longer wider) (sym none) g) _ commit txns rows refl
          (goes-flushed start journal w.now w.stands actor (Some (pinned_of held)) is_open.seat held refl (is_open.fits refl) answered (answer_here answered is)) kept

      pub rows-held : held.base ≡ commit → held.rows ≡ all_applied rows held.own
      rows-held here =
          let w = was in
          newest-held start journal w.now w.stands actor (Some (pinned_of held)) is_open.seat held refl (is_open.fits refl) (here ∙ (λ i. (sym w.kept i).0))
          ∙ (λ i. all_applied (w.kept i).1.1 held.own)

      pub keeps-committed : (version : ℕ) (txns2 : FinMap nat_cmp Pinned) (rows2 : RowsValue) → flush_answer commit held.base held.own ≡ answer.Committed version None → held.base ≡ commit
          → txns2 ≡ insert txns actor (record { mode = held.mode; base = version }) → rows2 ≡ held.rows → Grown journal used sessions actor (step.Flush held.own (Some version)) grown longer wider
          → Keeps start grown version txns2 rows2 sessions longer wider
      keeps-committed version txns2 rows2 is here put shared g =
          let w = was in
          let rows_are = shared ∙ rows-held here in
          on grown longer wider actor (step.Flush held.own (Some version)) g _ version txns2 rows2 refl
          (goes-flushed start journal w.now w.stands actor (Some (pinned_of held)) is_open.seat held refl (is_open.fits refl) (answer.Committed version None) (answer_here _ is))
          ((λ i. (version, (insert (w.kept i).1.0 actor (record { mode = held.mode; base = version }), all_applied (w.kept i).1.1 held.own))) ∙ (λ i. (version, (sym put i, sym rows_are i))))

  -- ---- a stop

  module _ (actor line : ℕ) (has : Bool) (faults : ℕ) (reason : Cause) (from : Origin) (can : CanStop (plain_view start journal commit sessions) actor has faults reason from) where
    -- a stop makes one fewer that has not stopped
    fewer : (next : Standing) → next ≡ moved was.now actor (step.Stop line reason from) (record (unpinned was.now.books actor) { stopped = insert was.now.books.stopped actor tt })
        → going sessions next.books + 1 ≡ going sessions was.now.books
    fewer next is =
        let w = was in
        let s = seat-open (seat_of start journal actor) has can.seat in
        going-stopped actor w.now.books next.books (ap (λ (n : Standing). n.books.stopped) is) (ap is_over (stands-seat start journal w.now w.stands actor s.0 s.1)) sessions can.least can.most

    -- no device is there that could fail
    undisturbing : (why : Cause) (by : Origin) → IsMet (plain_view start journal commit sessions) faults why by → faults ≡ 0 → is_device_stop (step.Stop line why by) ≡ false
    undisturbing cause.Device origin.Run met none = let stops = keeps.undisturbed in absurd (omega arith)
    undisturbing cause.Device origin.Order met none = refl
    undisturbing cause.Device origin.Left met none = refl
    undisturbing cause.Broken by met none = refl
    undisturbing cause.Damaged by met none = refl
    undisturbing cause.Spent by met none = refl
    undisturbing cause.Memory by met none = refl

    -- there is room for it
    pub stop-room : used < room
    stop-room = let w = was in let h = keeps.has_room in let one = fewer _ refl in let open_books = ap (still_going sessions) w.books in omega arith

    pub keeps-stopped : (grown : List JournalEntry) (longer wider : ℕ) (txns2 : FinMap nat_cmp Pinned) → faults ≡ 0
        → txns2 ≡ remove txns actor → grown ≡ entered journal actor (step.Stop line reason from) → longer ≡ used + 1 → wider ≡ room
        → Keeps start grown commit txns2 rows sessions longer wider
    keeps-stopped grown longer wider txns2 none out entry one same =
        let w = was in
        let s = seat-open (seat_of start journal actor) has can.seat in
        let goes = goes-stopped start journal w.now w.stands actor s.0 s.1 line reason from in
        let there = ap (λ j. after (Some (opening start)) j) entry ∙ goes in
        let books = ap (still_going sessions) (after-booked (opening start) _ grown there) in
        let old = ap (still_going sessions) w.books in
        let room_then = keeps.has_room in
        let less = fewer _ refl in
        record {
          stands = ap (option_map kept_of) there ∙ (λ i. Some ((w.kept i).0, (remove (w.kept i).1.0 actor, (w.kept i).1.1))) ∙ (λ i. Some (commit, (sym out i, rows)));
          has_room = omega arith;
          undisturbed = ap device_stops entry ∙ device_stops-entered journal actor _ (undisturbing reason from can.met none) ∙ keeps.undisturbed;
          sound = keeps.sound;
        }

-- ---- begins

-- nobody is in the way, and memory was refused
pub memory-begins : {T : Type 0} (mode : Mode) (old new : SpaceView) (result : Result T BeginFault) → IsErrAnd result (λ fault. fault ≡ begin.Cause cause.Memory) → busy_of old.start old.journal mode ≡ None → new.journal ≡ old.journal
    → IfErr result (DoesNotBegin mode old new)
memory-begins mode old new result refused free same =
    let error = err_from_is_err_and result refused in
    rw (error.1, error.2) (free, record { journal_same = same; why = tt })

-- ---- stops

pub no_faults : {Local : Type 0} (txn : Option Local) → faults_in (λ _. 0) txn ≡ 0
no_faults None = refl
no_faults (Some txn) = refl

-- ---- flushes

length-none : (own : List RowChange) → length own ≡ 0 → own ≡ []
length-none [] is = refl
length-none (change ∷ more) is = absurd (omega arith)

-- whether a transaction has changes
module _ (own slice : List RowChange) (is_empty : Bool) (test : is_empty ≡ (length slice == 0)) (same : slice ≡ own) where
  pub has-none : is_empty ≡ true → own ≡ []
  has-none is = sym same ∙ length-none slice (eqb-true (length slice) 0 (sym test ∙ is))

  pub has-some : is_empty ≡ false → own ≡ [] → ⊥
  has-some is none = false≢true (sym is ∙ test ∙ eq-eqb (length slice) 0 (ap length (same ∙ none)))

-- ---- a new store

pub keeps-new : (start : Newest) (journal : List JournalEntry) (txns : FinMap nat_cmp Pinned) (rows : RowsValue) (sessions used room : ℕ) → IsTrue (is_sound start.rows) → journal ≡ [] → txns ≡ empty → rows ≡ start.rows → used ≡ 0 → sessions ≤ room
    → Keeps start journal start.commit txns rows sessions used room
keeps-new start journal txns rows sessions used room sound none nothing same at wide =
    let most = still_going-most sessions (books_after start journal) in
    record {
      stands = ap (λ j. option_map kept_of (after (Some (opening start)) j)) none ∙ (λ i. Some (start.commit, (sym nothing i, sym same i)));
      has_room = omega arith;
      undisturbed = ap device_stops none;
      sound = sound;
    }
