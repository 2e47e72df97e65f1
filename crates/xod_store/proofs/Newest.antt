-- What is known of the newest commit of a store.
use Rattle.std.proofs.Common.{◌≡◌, ◌≤◌, ℕ, true, false, Option, Some, None, refl, sym, ap, ◌∙◌, arith, List}
use Rattle.std.specs.Prelude.{is_some, option_map, unwrap_or}
use Rattle.std.specs.Ordering.{nat_cmp}
use Rattle.std.specs.FinMap.{FinMap}
use Rattle.std.proofs.lemmas.Option.{none-some, same_Some}
use Rattle.xod_base.specs.Views.{Trees}
use Rattle.xod_journal.specs.Books.{Books}
use Rattle.xod_journal.specs.declared.journal.JournalEntry.{JournalEntry}
use Rattle.xod_journal.specs.declared.journal.Pinned.{Pinned}
use Rattle.xod_journal.specs.Seats.{Seat, books_after, seat_in, seat_of}
use Rattle.xod_journal.specs.Standing.{Newest, rows_at}
use Rattle.xod_recover.specs.Stores.{Stored, stored_in}
use Rattle.xod_volume.specs.Files.{Files}
use Rattle.xod_store.specs.Images.{Holds, IsPrefix, commit_left, synced_in}
use Rattle.xod_store.specs.Parts.{IsBooked, IsTold, kept_in}
use Rattle.xod_store.proofs.Rises.{rises, start-rows}
use Rattle.xod_store.proofs.Safe.{prefix-at}
use Rattle.xod_store.proofs.Told.{newest-rows}

module _ (start : Newest) (journal : List JournalEntry) (commit : ℕ) (txns : FinMap nat_cmp Pinned) (sessions used room : ℕ) (keeps : IsBooked start journal commit txns sessions used room) where
  -- the books that it has
  record Has : Type 0 where
    books : Books
    is : books_after start journal ≡ Some books
    commit_is : books.commit ≡ commit

  has : Has
  has = elim (books_after start journal) as (λ o. books_after start journal ≡ o → option_map kept_in o ≡ Some (commit, txns) → Has) [
    | None ↦ λ is kept. absurd (none-some _ kept)
    | Some books ↦ λ is kept. record { books = books; is = is; commit_is = ap (λ (k : ℕ × FinMap nat_cmp Pinned). k.0) (same_Some _ _ kept) }
  ] refl keeps.books

  pub commit-low : start.commit ≤ commit
  commit-low = let h = has in let low = (rises start journal h.books h.is).low in let same = h.commit_is in omega arith

  pub synced-low : synced_in start journal ≤ commit
  synced-low =
      let h = has in
      let low = (rises start journal h.books h.is).synced in
      let same = h.commit_is in
      let synced : synced_in start journal ≡ h.books.synced = ap (λ o. unwrap_or (option_map (λ (b : Books). b.synced) o) 0) h.is in
      omega arith

  -- the base of an open transaction is not above it
  pub base-low : (actor : ℕ) (held : Pinned) → seat_of start journal actor ≡ Some (false, Some held) → held.base ≤ commit
  base-low actor held seat =
      let h = has in
      let here = same_Some _ _ (ap (option_map (seat_in actor)) (sym h.is) ∙ seat) in
      let low = (rises start journal h.books h.is).bases actor held (ap (λ (s : Seat). s.1) here) in
      let same = h.commit_is in
      omega arith

  -- an image that stores it is a good store after all of the journal's commits
  pub at-newest : (trees : Trees) (kinds : List (List ℕ)) → IsTold start journal trees kinds → (left : Files) → stored_in left ≡ Some (record { commit = commit; trees = trees }) → IsPrefix start journal left
  at-newest trees kinds told left is =
      prefix-at start journal left (record { commit = commit; trees = trees }) is commit-low (let newest = keeps.newest in omega arith)
      (told.tables ∙ ap Some (sym (newest-rows start journal trees kinds told)) ∙ ap (λ n. Some (rows_at n start.rows journal)) keeps.newest)

  -- an image that holds what the start had is a good store after none of the journal's commits
  pub at-start : (left : Files) → Holds left start → IsPrefix start journal left
  at-start left held =
      let h = has in
      let newest = keeps.newest in
      let low = commit-low in
      let commit : commit_left left ≡ start.commit = ap (λ o. unwrap_or o 0) held.commit in
      record {
        good = stored-good (stored_in left) held.commit;
        low = omega (arith, commit);
        high = omega (arith, commit, newest, low);
        rows = held.rows ∙ ap Some (sym (start-rows start journal h.books h.is)) ∙ ap (λ n. Some (rows_at n start.rows journal)) (sym commit);
      }
    where
      stored-good : (o : Option Stored) → option_map (λ (s : Stored). s.commit) o ≡ Some start.commit → is_some o ≡ true
      stored-good None e = absurd (none-some _ e)
      stored-good (Some stored) e = refl
