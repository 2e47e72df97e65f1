-- What a step leaves of what a store has of its books.
use Rattle.std.proofs.Common.{◌≡◌, ◌≤◌, ◌<◌, ℕ, ◌+◌, Bool, true, false, cond, List, [], Option, Some, None, refl, sym, ap, subst, ◌∙◌, arith, le-leb}
use Rattle.std.specs.Prelude.{◌&&◌, is_some, nat_le, option_and_then, option_map}
use Rattle.std.specs.List.{list_all}
use Rattle.std.specs.Ordering.{nat_cmp}
use Rattle.std.specs.FinMap.{FinMap, empty, entries, get, insert, remove}
use Rattle.std.proofs.lemmas.List.Folds.{list_all-append}
use Rattle.std.proofs.lemmas.Option.{none-some, same_Some}
use Rattle.xod_base.specs.declared.causes.Cause.{Cause}
use Rattle.xod_base.specs.declared.query.Mode.{Mode}
use Rattle.xod_books.specs.Going.{still_going}
use Rattle.xod_books.proofs.GoingLemmas.{going-stopped, still_going-most}
use Rattle.xod_journal.specs.declared.journal.JournalEntry.{JournalEntry}
use Rattle.xod_journal.specs.declared.journal.Origin.{Origin}
use Rattle.xod_journal.specs.declared.journal.Pinned.{Pinned}
use Rattle.xod_journal.specs.declared.journal.Step.{Step}
use Rattle.xod_journal.specs.declared.journal.Step.TheVariants as step
use Rattle.xod_journal.specs.Books.{Books, booked, booked_in, committed, flush_answer, holder, holder_among, pinned, same_version, version_of}
use Rattle.xod_journal.specs.Seats.{Seat, books_after, busy_of, entered, is_over, seat_in, seat_of}
use Rattle.xod_journal.specs.Standing.{Newest, newest_after, newest_step}
use Rattle.xod_journal.specs.Txns.{OpenTxn, pinned_of}
use Rattle.xod_journal.proofs.CallerLemmas.{all_booked-append, newest_after-append, same_version-refl}
use Rattle.xod_store.specs.Parts.{IsBooked, is_seated, is_stop, kept_in}

-- The journal has one entry more, and still room for a stop of each session.
pub record Grown (journal : List JournalEntry) (sessions actor : ℕ) (step : Step) (grown : List JournalEntry) (longer wider : ℕ) : Type 0 where
  pub entry : grown ≡ entered journal actor step
  pub room : longer + sessions ≤ wider

-- room was made, and then the entry was put there
pub grew : (journal made grown : List JournalEntry) (used held longer sessions room wider actor : ℕ) (step : Step) → made ≡ journal → held ≡ used → held + (sessions + 1) ≤ room
    → grown ≡ entered made actor step → longer ≡ held + 1 → wider ≡ room → Grown journal sessions actor step grown longer wider
grew journal made grown used held longer sessions room wider actor step items len space put one same =
    record { entry = put ∙ ap (λ j. entered j actor step) items; room = omega arith }

-- where the books stand
record Was (start : Newest) (journal : List JournalEntry) (commit : ℕ) (txns : FinMap nat_cmp Pinned) : Type 0 where
  books : Books
  is : books_after start journal ≡ Some books
  kept : kept_in books ≡ (commit, txns)

both : (b c : Bool) → b ≡ true → c ≡ true → (b && c) ≡ true
both b c p q = λ i. p i && q i

module _ (start : Newest) (journal : List JournalEntry) (commit : ℕ) (txns : FinMap nat_cmp Pinned) (sessions used room : ℕ) (keeps : IsBooked start journal commit txns sessions used room) where
  was : Was start journal commit txns
  was = elim (books_after start journal) as (λ o. books_after start journal ≡ o → option_map kept_in o ≡ Some (commit, txns) → Was start journal commit txns) [
    | None ↦ λ is kept. absurd (none-some _ kept)
    | Some books ↦ λ is kept. record { books = books; is = is; kept = same_Some _ _ kept }
  ] refl keeps.books

  -- who is in the way
  pub busy-is : (mode : Mode) → busy_of start journal mode ≡ holder_among mode (entries txns)
  busy-is mode = let w = was in ap (option_and_then (λ books. holder books mode)) w.is ∙ (λ i. holder_among mode (entries (w.kept i).1))

  -- the same open transactions
  pub keeps-same : (txns2 : FinMap nat_cmp Pinned) → txns2 ≡ txns → IsBooked start journal commit txns2 sessions used room
  keeps-same txns2 same = subst (λ t. IsBooked start journal commit t sessions used room) (sym same) keeps

  -- more room for the same journal
  pub keeps-wider : (made : List JournalEntry) (held wider : ℕ) → made ≡ journal → held ≡ used → room ≤ wider → IsBooked start made commit txns sessions held wider
  keeps-wider made held wider items len grows =
      let space = keeps.has_room in
      let same = ap (λ j. still_going sessions (books_after start j)) items in
      record {
        books = ap (λ j. option_map kept_in (books_after start j)) items ∙ keeps.books;
        newest = ap (λ j. (newest_after start j).commit) items ∙ keeps.newest;
        seated = ap (list_all (is_seated sessions)) items ∙ keeps.seated;
        has_room = omega arith;
      }

  -- ---- one step

  module _ (actor : ℕ) (txn : Option Pinned) (seat : seat_of start journal actor ≡ Some (false, txn)) where
    here : seat_in actor was.books ≡ (false, txn)
    here = let w = was in same_Some _ _ (ap (option_map (seat_in actor)) (sym w.is) ∙ seat)

    -- the open transaction of the actor
    pub open-is : get txns actor ≡ txn
    open-is = let w = was in (λ i. get ((sym w.kept i).1) actor) ∙ ap (λ (s : Seat). s.1) here

    goes : (st : Step) (next : Books) → booked_in was.books actor st txn ≡ Some next → books_after start (entered journal actor st) ≡ Some next
    unfolding booked
    goes st next done =
        let w = was in
        all_booked-append _ journal _ ∙ ap (option_and_then (λ b. booked b actor st)) w.is
        ∙ ap (λ b. cond b None (booked_in w.books actor st ((seat_in actor w.books).1))) (ap is_over here) ∙ ap (λ (s : Seat). booked_in w.books actor st s.1) here ∙ done

    module _ (grown : List JournalEntry) (longer wider : ℕ) where
      on : (st : Step) (next : Books) (commit2 : ℕ) (txns2 : FinMap nat_cmp Pinned) → is_stop st ≡ false → booked_in was.books actor st txn ≡ Some next → kept_in next ≡ (commit2, txns2)
          → (newest_step (newest_after start journal) st).commit ≡ commit2 → Grown journal sessions actor st grown longer wider → IsBooked start grown commit2 txns2 sessions longer wider
      on st next commit2 txns2 quiet done kept newest g =
          let there = ap (books_after start) g.entry ∙ goes st next done in
          let most = still_going-most sessions (books_after start grown) in
          let space = g.room in
          record {
            books = ap (option_map kept_in) there ∙ ap Some kept;
            newest = ap (λ j. (newest_after start j).commit) g.entry ∙ ap (λ (n : Newest). n.commit) (newest_after-append start journal _) ∙ newest;
            seated = ap (list_all (is_seated sessions)) g.entry ∙ list_all-append (is_seated sessions) journal _
                ∙ both _ _ keeps.seated (both _ true (ap (λ b. cond b (nat_le 1 actor && nat_le actor sessions) true) quiet) refl);
            has_room = omega arith;
          }

      pub keeps-begun : (mode : Mode) (txns2 : FinMap nat_cmp Pinned) → txn ≡ None → holder_among mode (entries txns) ≡ None → txns2 ≡ insert txns actor (record { mode = mode; base = commit })
          → Grown journal sessions actor (step.Begin mode) grown longer wider → IsBooked start grown commit txns2 sessions longer wider
      keeps-begun mode txns2 none free put g =
          let w = was in
          on (step.Begin mode) _ commit txns2 refl
          (ap (booked_in w.books actor (step.Begin mode)) none ∙ ap (λ o. cond (is_some o) None (Some (pinned w.books actor (record { mode = mode; base = w.books.commit })))) ((λ i. holder_among mode (entries (w.kept i).1)) ∙ free))
          ((λ i. ((w.kept i).0, insert (w.kept i).1 actor (record { mode = mode; base = (w.kept i).0 }))) ∙ (λ i. (commit, sym put i)))
          keeps.newest g

      pub keeps-reverted : (held : Pinned) (txns2 : FinMap nat_cmp Pinned) → txn ≡ Some held → txns2 ≡ insert txns actor (record { mode = held.mode; base = commit })
          → Grown journal sessions actor step.Revert grown longer wider → IsBooked start grown commit txns2 sessions longer wider
      keeps-reverted held txns2 is put g =
          let w = was in
          on step.Revert _ commit txns2 refl (ap (booked_in w.books actor step.Revert) is)
          ((λ i. ((w.kept i).0, insert (w.kept i).1 actor (record { mode = held.mode; base = (w.kept i).0 }))) ∙ (λ i. (commit, sym put i)))
          keeps.newest g

      pub keeps-ended : (held : Pinned) (txns2 : FinMap nat_cmp Pinned) → txn ≡ Some held → txns2 ≡ remove txns actor
          → Grown journal sessions actor step.End grown longer wider → IsBooked start grown commit txns2 sessions longer wider
      keeps-ended held txns2 is out g =
          let w = was in
          on step.End _ commit txns2 refl (ap (booked_in w.books actor step.End) is) ((λ i. ((w.kept i).0, remove (w.kept i).1 actor)) ∙ (λ i. (commit, sym out i))) keeps.newest g

      pub keeps-synced : Grown journal sessions actor step.Sync grown longer wider → IsBooked start grown commit txns sessions longer wider
      keeps-synced g = on step.Sync _ commit txns refl refl was.kept keeps.newest g

      -- a flush with a version or without one, by what it answers
      flushed : (held : OpenTxn) (version : Option ℕ) → txn ≡ Some (pinned_of held) → version_of (flush_answer commit held.base held.own) ≡ version
          → booked_in was.books actor (step.Flush held.own version) txn ≡ Some (committed was.books actor (pinned_of held) version)
      flushed held version is answers =
          let w = was in
          ap (booked_in w.books actor (step.Flush held.own version)) is
          ∙ ap (λ b. cond b (Some (committed w.books actor (pinned_of held) version)) None)
          (ap (same_version version) ((λ i. version_of (flush_answer (w.kept i).0 held.base held.own)) ∙ answers) ∙ same_version-refl version)

      pub keeps-unchanged : (held : OpenTxn) → txn ≡ Some (pinned_of held) → version_of (flush_answer commit held.base held.own) ≡ None
          → Grown journal sessions actor (step.Flush held.own None) grown longer wider → IsBooked start grown commit txns sessions longer wider
      keeps-unchanged held is answers g = on (step.Flush held.own None) _ commit txns refl (flushed held None is answers) was.kept keeps.newest g

      pub keeps-committed : (held : OpenTxn) (version : ℕ) (txns2 : FinMap nat_cmp Pinned) → txn ≡ Some (pinned_of held) → version_of (flush_answer commit held.base held.own) ≡ Some version
          → txns2 ≡ insert txns actor (record { mode = held.mode; base = version }) → Grown journal sessions actor (step.Flush held.own (Some version)) grown longer wider
          → IsBooked start grown version txns2 sessions longer wider
      keeps-committed held version txns2 is answers put g =
          let w = was in
          on (step.Flush held.own (Some version)) _ version txns2 refl (flushed held (Some version) is answers)
          ((λ i. (version, insert (w.kept i).1 actor (record { mode = held.mode; base = version }))) ∙ (λ i. (version, sym put i))) refl g

    -- ---- a stop

    module _ (least : 1 ≤ actor) (most : actor ≤ sessions) where
      abbrev stopped_books : Books
      stopped_books = record was.books { txns = remove was.books.txns actor; stopped = insert was.books.stopped actor tt }

      -- a stop makes one fewer that has not stopped
      fewer : still_going sessions (Some stopped_books) + 1 ≡ still_going sessions (books_after start journal)
      fewer = let w = was in going-stopped actor w.books stopped_books refl (ap is_over here) sessions least most ∙ ap (still_going sessions) (sym w.is)

      pub stop-room : used < room
      stop-room = let has_room = keeps.has_room in let less = fewer in omega arith

      pub keeps-stopped : (line : ℕ) (reason : Cause) (from : Origin) (grown : List JournalEntry) (longer wider : ℕ) (txns2 : FinMap nat_cmp Pinned) → txns2 ≡ remove txns actor
          → grown ≡ entered journal actor (step.Stop line reason from) → longer ≡ used + 1 → wider ≡ room → IsBooked start grown commit txns2 sessions longer wider
      keeps-stopped line reason from grown longer wider txns2 out entry one same =
          let w = was in
          let gone : books_after start grown ≡ Some stopped_books = ap (books_after start) entry ∙ goes (step.Stop line reason from) stopped_books refl in
          let left = ap (still_going sessions) gone in
          let has_room = keeps.has_room in
          let less = fewer in
          record {
            books = ap (option_map kept_in) gone ∙ (λ i. Some ((w.kept i).0, remove (w.kept i).1 actor)) ∙ (λ i. Some (commit, sym out i));
            newest = ap (λ j. (newest_after start j).commit) entry ∙ ap (λ (n : Newest). n.commit) (newest_after-append start journal _) ∙ keeps.newest;
            seated = ap (list_all (is_seated sessions)) entry ∙ list_all-append (is_seated sessions) journal _
                ∙ both _ _ keeps.seated (both _ true (both _ _ (le-leb 1 actor least) (le-leb actor sessions most)) refl);
            has_room = omega arith;
          }

-- ---- a new store

pub keeps-new : (start : Newest) (journal : List JournalEntry) (txns : FinMap nat_cmp Pinned) (sessions used room : ℕ) → journal ≡ [] → txns ≡ empty → used ≡ 0 → sessions ≤ room
    → IsBooked start journal start.commit txns sessions used room
keeps-new start journal txns sessions used room none nothing at wide =
    let most = still_going-most sessions (books_after start journal) in
    record {
      books = ap (λ j. option_map kept_in (books_after start j)) none ∙ (λ i. Some (start.commit, sym nothing i));
      newest = ap (λ j. (newest_after start j).commit) none;
      seated = ap (list_all (is_seated sessions)) none;
      has_room = omega arith;
    }
