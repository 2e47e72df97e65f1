-- What a step leaves of what a store that fails as planned keeps.
use Rattle.std.proofs.Common.{◌≡◌, ◌≤◌, ◌<◌, ℕ, ◌+◌, Bool, true, false, cond, List, [], ◌∷◌, Option, Some, None, refl, sym, ap, ◌∙◌, arith, length}
use Rattle.std.specs.Prelude.{is_some, option_and_then, option_map}
use Rattle.std.specs.List.{filter}
use Rattle.std.specs.Ordering.{nat_cmp}
use Rattle.std.specs.FinMap.{FinMap, empty, entries, insert, remove}
use Rattle.std.proofs.lemmas.List.{length-append}
use Rattle.std.proofs.lemmas.List.Elements.{filter-append}
use Rattle.std.proofs.lemmas.Option.{none-some, same_Some}
use Rattle.xod_base.specs.declared.causes.Cause.{Cause}
use Rattle.xod_base.specs.declared.causes.Cause.TheVariants as cause
use Rattle.xod_base.specs.declared.query.Mode.{Mode}
use Rattle.xod_journal.specs.declared.journal.JournalEntry.{JournalEntry}
use Rattle.xod_journal.specs.declared.journal.Origin.{Origin}
use Rattle.xod_journal.specs.declared.journal.Origin.TheVariants as origin
use Rattle.xod_journal.specs.declared.journal.Pinned.{Pinned}
use Rattle.xod_journal.specs.declared.journal.Step.{Step}
use Rattle.xod_journal.specs.declared.journal.Step.TheVariants as step
use Rattle.xod_journal.specs.Books.{Books, booked, booked_in, committed, flush_answer, holder_among, pinned, same_version, version_of}
use Rattle.xod_journal.specs.Seats.{Seat, books_after, entered, is_over, seat_in, seat_of}
use Rattle.xod_journal.specs.Spaces.{CanStop, IsCounted, IsMet, device_stops, is_device_stop}
use Rattle.xod_journal.specs.Standing.{Newest, newest_after, newest_step}
use Rattle.xod_journal.specs.Txns.{OpenTxn, pinned_of}
use Rattle.xod_journal.proofs.CallerLemmas.{all_booked-append, device_stops-entered, newest_after-append, same_version-refl, seat-open}
use Rattle.xod_model.specs.Plain.{still_going}
use Rattle.xod_model.proofs.GoingLemmas.{going-stopped, still_going-most}
use Rattle.xod_spaces.specs.declared.outside.Outside.{Outside}
use Rattle.xod_spaces.specs.Keeping.{Keeps, kept_in}
use Rattle.xod_spaces.specs.Views.{faulty_view, start_at}

-- The journal has one entry more, and still room for a stop of each session.
pub record Grown (journal : List JournalEntry) (sessions actor : ℕ) (step : Step) (grown : List JournalEntry) (longer wider : ℕ) : Type 0 where
  pub entry : grown ≡ entered journal actor step
  pub room : longer + sessions ≤ wider

-- room was made, and then the entry was put there
pub grew : (journal grown : List JournalEntry) (used longer room wider sessions actor : ℕ) (step : Step) → used + (sessions + 1) ≤ room → grown ≡ entered journal actor step → longer ≡ used + 1 → wider ≡ room
    → Grown journal sessions actor step grown longer wider
grew journal grown used longer room wider sessions actor step space put one same = record { entry = put; room = omega arith }

-- where the books stand
record Was (first : ℕ) (journal : List JournalEntry) (commit : ℕ) (txns : FinMap nat_cmp Pinned) : Type 0 where
  books : Books
  is : books_after (start_at first) journal ≡ Some books
  kept : kept_in books ≡ (commit, txns)

-- one entry more is at most one stop more for a device's fault
stops-grown : (journal : List JournalEntry) (actor : ℕ) (step : Step) → device_stops (entered journal actor step) ≤ device_stops journal + 1
stops-grown journal actor step =
    let entry : JournalEntry = record { actor = actor; step = step } in
    let parts = ap length (filter-append (λ (e : JournalEntry). is_device_stop e.step) journal (entry ∷ [])) ∙ length-append (filter (λ (e : JournalEntry). is_device_stop e.step) journal) (filter (λ (e : JournalEntry). is_device_stop e.step) (entry ∷ [])) in
    let one : length (filter (λ (e : JournalEntry). is_device_stop e.step) (entry ∷ [])) ≤ 1 = elim (is_device_stop step) as (λ b. length (cond b (entry ∷ []) []) ≤ 1) [ true ↦ omega arith | false ↦ omega arith ] in
    omega arith

module _ (first : ℕ) (journal : List JournalEntry) (commit : ℕ) (txns : FinMap nat_cmp Pinned) (sessions used room faults : ℕ) (keeps : Keeps first journal commit txns sessions used room faults) where
  was : Was first journal commit txns
  was = elim (books_after (start_at first) journal) as (λ o. books_after (start_at first) journal ≡ o → option_map kept_in o ≡ Some (commit, txns) → Was first journal commit txns) [
    | None ↦ λ is kept. absurd (none-some _ kept)
    | Some books ↦ λ is kept. record { books = books; is = is; kept = same_Some _ _ kept }
  ] refl keeps.booked

  -- ---- one step

  module _ (actor : ℕ) (txn : Option Pinned) (seat : seat_of (start_at first) journal actor ≡ Some (false, txn)) where
    here : seat_in actor was.books ≡ (false, txn)
    here = let w = was in same_Some _ _ (ap (option_map (seat_in actor)) (sym w.is) ∙ seat)

    goes : (st : Step) (next : Books) → booked_in was.books actor st txn ≡ Some next → books_after (start_at first) (entered journal actor st) ≡ Some next
    unfolding booked
    goes st next done =
        let w = was in
        all_booked-append _ journal _ ∙ ap (option_and_then (λ b. booked b actor st)) w.is
        ∙ ap (λ b. cond b None (booked_in w.books actor st ((seat_in actor w.books).1))) (ap is_over here) ∙ ap (λ (s : Seat). booked_in w.books actor st s.1) here ∙ done

    module _ (grown : List JournalEntry) (longer wider later : ℕ) (never_falls : faults ≤ later) where
      on : (st : Step) (next : Books) (commit2 : ℕ) (txns2 : FinMap nat_cmp Pinned) → is_device_stop st ≡ false → booked_in was.books actor st txn ≡ Some next → kept_in next ≡ (commit2, txns2)
          → (newest_step (newest_after (start_at first) journal) st).commit ≡ commit2 → Grown journal sessions actor st grown longer wider → Keeps first grown commit2 txns2 sessions longer wider later
      on st next commit2 txns2 quiet done kept newest g =
          let there = ap (books_after (start_at first)) g.entry ∙ goes st next done in
          let most = still_going-most sessions (books_after (start_at first) grown) in
          let counted = keeps.counted in
          let same = ap device_stops g.entry ∙ device_stops-entered journal actor st quiet in
          let space = g.room in
          record {
            booked = ap (option_map kept_in) there ∙ ap Some kept;
            newest = ap (λ j. (newest_after (start_at first) j).commit) g.entry ∙ ap (λ (n : Newest). n.commit) (newest_after-append (start_at first) journal _) ∙ newest;
            has_room = omega arith;
            counted = omega arith;
          }

      pub keeps-begun : (mode : Mode) (txns2 : FinMap nat_cmp Pinned) → txn ≡ None → holder_among mode (entries txns) ≡ None → txns2 ≡ insert txns actor (record { mode = mode; base = commit })
          → Grown journal sessions actor (step.Begin mode) grown longer wider → Keeps first grown commit txns2 sessions longer wider later
      keeps-begun mode txns2 none free put g =
          let w = was in
          on (step.Begin mode) _ commit txns2 refl
          (ap (booked_in w.books actor (step.Begin mode)) none ∙ ap (λ o. cond (is_some o) None (Some (pinned w.books actor (record { mode = mode; base = w.books.commit })))) ((λ i. holder_among mode (entries (w.kept i).1)) ∙ free))
          ((λ i. ((w.kept i).0, insert (w.kept i).1 actor (record { mode = mode; base = (w.kept i).0 }))) ∙ (λ i. (commit, sym put i)))
          keeps.newest g

      pub keeps-reverted : (held : Pinned) (txns2 : FinMap nat_cmp Pinned) → txn ≡ Some held → txns2 ≡ insert txns actor (record { mode = held.mode; base = commit })
          → Grown journal sessions actor step.Revert grown longer wider → Keeps first grown commit txns2 sessions longer wider later
      keeps-reverted held txns2 is put g =
          let w = was in
          on step.Revert _ commit txns2 refl (ap (booked_in w.books actor step.Revert) is)
          ((λ i. ((w.kept i).0, insert (w.kept i).1 actor (record { mode = held.mode; base = (w.kept i).0 }))) ∙ (λ i. (commit, sym put i)))
          keeps.newest g

      pub keeps-ended : (held : Pinned) (txns2 : FinMap nat_cmp Pinned) → txn ≡ Some held → txns2 ≡ remove txns actor
          → Grown journal sessions actor step.End grown longer wider → Keeps first grown commit txns2 sessions longer wider later
      keeps-ended held txns2 is out g =
          let w = was in
          on step.End _ commit txns2 refl (ap (booked_in w.books actor step.End) is) ((λ i. ((w.kept i).0, remove (w.kept i).1 actor)) ∙ (λ i. (commit, sym out i))) keeps.newest g

      pub keeps-synced : Grown journal sessions actor step.Sync grown longer wider → Keeps first grown commit txns sessions longer wider later
      keeps-synced g = on step.Sync _ commit txns refl refl was.kept keeps.newest g

      -- a flush with a version or without one, by what it answers
      flushed : (held : OpenTxn) (version : Option ℕ) → txn ≡ Some (pinned_of held) → version_of (flush_answer commit held.base held.own) ≡ version
          → booked_in was.books actor (step.Flush held.own version) txn ≡ Some (committed was.books actor (pinned_of held) version)
      flushed held version is answers =
          let w = was in
          ap (booked_in w.books actor (step.Flush held.own version)) is
          ∙ ap (λ b. cond b (Some (committed w.books actor (pinned_of held) version)) None)
          (ap (same_version version) ((λ i. version_of (flush_answer (w.kept i).0 held.base held.own)) ∙ answers) ∙ same_version-refl version)

      pub keeps-unchanged : (held : OpenTxn) → txn ≡ Some (pinned_of held) → version_of (flush_answer commit held.base held.own) ≡ None
          → Grown journal sessions actor (step.Flush held.own None) grown longer wider → Keeps first grown commit txns sessions longer wider later
      keeps-unchanged held is answers g = on (step.Flush held.own None) _ commit txns refl (flushed held None is answers) was.kept keeps.newest g

      pub keeps-committed : (held : OpenTxn) (version : ℕ) (txns2 : FinMap nat_cmp Pinned) → txn ≡ Some (pinned_of held) → version_of (flush_answer commit held.base held.own) ≡ Some version
          → txns2 ≡ insert txns actor (record { mode = held.mode; base = version }) → Grown journal sessions actor (step.Flush held.own (Some version)) grown longer wider
          → Keeps first grown version txns2 sessions longer wider later
      keeps-committed held version txns2 is answers put g =
          let w = was in
          on (step.Flush held.own (Some version)) _ version txns2 refl (flushed held (Some version) is answers)
          ((λ i. (version, insert (w.kept i).1 actor (record { mode = held.mode; base = version }))) ∙ (λ i. (version, sym put i))) refl g

  -- ---- a stop

  module _ (outside : Outside) (met_there : faults ≡ outside.faults) (actor line : ℕ) (has : Bool) (more : ℕ) (reason : Cause) (from : Origin) (can : CanStop (faulty_view first journal sessions outside) actor has more reason from) where
    there : (txn : Option Pinned) × (seat_of (start_at first) journal actor ≡ Some (false, txn))
    there = let s = seat-open (seat_of (start_at first) journal actor) has can.seat in (s.0, s.1)

    abbrev stopped_books : Books
    stopped_books = record was.books { txns = remove was.books.txns actor; stopped = insert was.books.stopped actor tt }

    -- a stop makes one fewer that has not stopped
    fewer : still_going sessions (Some stopped_books) + 1 ≡ still_going sessions (books_after (start_at first) journal)
    fewer =
        let w = was in
        going-stopped actor w.books stopped_books refl (ap is_over (here actor there.0 there.1)) sessions can.least can.most ∙ ap (still_going sessions) (sym w.is)

    pub stop-room : used < room
    stop-room = let has_room = keeps.has_room in let less = fewer in omega arith

    counts : (why : Cause) (by : Origin) (later : ℕ) → IsMet (faulty_view first journal sessions outside) more why by → faults ≤ later → IsCounted (faults + more) later → IsCounted (device_stops (entered journal actor (step.Stop line why by))) later
    counts cause.Device origin.Run later met least most = let grown = stops-grown journal actor (step.Stop line cause.Device origin.Run) in let same = met_there in omega arith
    counts cause.Device origin.Order later met least most = let same = device_stops-entered journal actor (step.Stop line cause.Device origin.Order) refl in let counted = keeps.counted in omega arith
    counts cause.Device origin.Left later met least most = let same = device_stops-entered journal actor (step.Stop line cause.Device origin.Left) refl in let counted = keeps.counted in omega arith
    counts cause.Broken by later met least most = let same = device_stops-entered journal actor (step.Stop line cause.Broken by) refl in let counted = keeps.counted in omega arith
    counts cause.Damaged by later met least most = let same = device_stops-entered journal actor (step.Stop line cause.Damaged by) refl in let counted = keeps.counted in omega arith
    counts cause.Spent by later met least most = let same = device_stops-entered journal actor (step.Stop line cause.Spent by) refl in let counted = keeps.counted in omega arith
    counts cause.Memory by later met least most = let same = device_stops-entered journal actor (step.Stop line cause.Memory by) refl in let counted = keeps.counted in omega arith

    pub keeps-stopped : (grown : List JournalEntry) (longer wider later : ℕ) (txns2 : FinMap nat_cmp Pinned) → txns2 ≡ remove txns actor → grown ≡ entered journal actor (step.Stop line reason from) → longer ≡ used + 1 → wider ≡ room
        → faults ≤ later → IsCounted (faults + more) later → Keeps first grown commit txns2 sessions longer wider later
    keeps-stopped grown longer wider later txns2 out entry one same least most =
        let w = was in
        let gone : books_after (start_at first) grown ≡ Some stopped_books = ap (books_after (start_at first)) entry ∙ goes actor there.0 there.1 (step.Stop line reason from) stopped_books refl in
        let left = ap (still_going sessions) gone in
        let has_room = keeps.has_room in
        let less = fewer in
        record {
          booked = ap (option_map kept_in) gone ∙ (λ i. Some ((w.kept i).0, remove (w.kept i).1 actor)) ∙ (λ i. Some (commit, sym out i));
          newest = ap (λ j. (newest_after (start_at first) j).commit) entry ∙ ap (λ (n : Newest). n.commit) (newest_after-append (start_at first) journal _) ∙ keeps.newest;
          has_room = omega arith;
          counted = let counted = counts reason from later can.met least most in omega (arith, ap device_stops entry);
        }

-- ---- a new store

pub keeps-new : (first : ℕ) (journal : List JournalEntry) (txns : FinMap nat_cmp Pinned) (sessions used room faults : ℕ) → journal ≡ [] → txns ≡ empty → used ≡ 0 → used + sessions ≤ room → faults ≡ 0
    → Keeps first journal first txns sessions used room faults
keeps-new first journal txns sessions used room faults none nothing at wide calm =
    let most = still_going-most sessions (books_after (start_at first) journal) in
    let stops = ap device_stops none in
    record {
      booked = ap (λ j. option_map kept_in (books_after (start_at first) j)) none ∙ (λ i. Some (first, sym nothing i));
      newest = ap (λ j. (newest_after (start_at first) j).commit) none;
      has_room = omega arith;
      counted = omega arith;
    }
