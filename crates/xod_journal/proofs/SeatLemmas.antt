-- What the journal has of an actor after a step, of its own or of another one.
use Rattle.std.proofs.Common.{◌≡◌, ℕ, ◌+◌, true, false, cond, List, [], ◌∷◌, Option, Some, None, refl, sym, ap, subst, ◌∙◌, eqb-true, eq-eqb}
use Rattle.std.specs.Prelude.{option_map, is_some, ◌==◌}
use Rattle.std.specs.Ordering.{nat_cmp}
use Rattle.std.specs.Cmp.{unsigned_tied}
use Rattle.std.specs.FinMap.{FinMap, get, insert, remove, get-insert, get-remove}
use Rattle.std.proofs.lemmas.Cmp.{nat_cmp_total}
use Rattle.std.proofs.lemmas.Option.{none-some, same_Some}
use Rattle.std.proofs.lemmas.Bool.{false≢true}
use Rattle.xod_base.specs.declared.answer.FlushAnswer.{FlushAnswer}
use Rattle.xod_base.specs.declared.answer.FlushAnswer.TheVariants as answer
use Rattle.xod_base.specs.declared.causes.Cause.{Cause}
use Rattle.xod_base.specs.declared.query.Mode.{Mode}
use Rattle.xod_journal.specs.declared.change.RowChange.{RowChange}
use Rattle.xod_journal.specs.declared.journal.Origin.{Origin}
use Rattle.xod_journal.specs.declared.journal.Step.{Step}
use Rattle.xod_journal.specs.declared.journal.Step.TheVariants as step
use Rattle.xod_journal.specs.declared.journal.Pinned.{Pinned}
use Rattle.xod_journal.specs.declared.journal.JournalEntry.{JournalEntry}
use Rattle.xod_journal.specs.Books.{Books, booked, booked_in, all_booked, holder, pinned, committed, same_version, version_of, flush_answer}
use Rattle.xod_journal.specs.Seats.{Seat, books_after, entered, seat_in, seat_of}
use Rattle.xod_journal.specs.Standing.{Newest, opening, newest_after, newest_step}
use Rattle.xod_journal.specs.Txns.{OpenTxn, pinned_of, txn_flushed}
use Rattle.xod_journal.proofs.JournalLemmas.{all_booked-append, all_booked-none, booked-commit, not_stopped}

-- ---- maps by actor

module _ {X : Type 0} (m : FinMap nat_cmp X) (k : ℕ) where
  pub get-inserted : (v : X) → get (insert m k v) k ≡ Some v
  get-inserted v = get-insert nat_cmp_total m k v k ∙ ap (λ b. cond b (Some v) (get m k)) (unsigned_tied k k ∙ eq-eqb k k refl)

  pub get-removed : get (remove m k) k ≡ None
  get-removed = get-remove nat_cmp_total m k k ∙ ap (λ b. cond b None (get m k)) (unsigned_tied k k ∙ eq-eqb k k refl)

  pub get-inserted_other : (q : ℕ) (v : X) → (q == k) ≡ false → get (insert m k v) q ≡ get m q
  get-inserted_other q v e = get-insert nat_cmp_total m k v q ∙ ap (λ b. cond b (Some v) (get m q)) (unsigned_tied q k ∙ e)

  pub get-removed_other : (q : ℕ) → (q == k) ≡ false → get (remove m k) q ≡ get m q
  get-removed_other q e = get-remove nat_cmp_total m k q ∙ ap (λ b. cond b None (get m q)) (unsigned_tied q k ∙ e)

-- ---- what a flush answers

pub same_version-refl : (m : Option ℕ) → same_version m m ≡ true
same_version-refl None = refl
same_version-refl (Some m) = eq-eqb m m refl

pub flush_cases : (P : FlushAnswer → Type 0) (commit base : ℕ) (changes : List RowChange) → P answer.Nothing → (base ≡ commit → P (answer.Committed (commit + 1) None)) → P (answer.Conflict base commit) → P (flush_answer commit base changes)
flush_cases P commit base [] nothing made conflict = nothing
flush_cases P commit base (change ∷ more) nothing made conflict =
    elim (base == commit) as (λ b. (base == commit) ≡ b → P (cond b (answer.Committed (commit + 1) None) (answer.Conflict base commit))) [
      | true ↦ λ e. made (eqb-true base commit e)
      | false ↦ λ e. conflict
    ] refl

pub flush-nothing : (commit base : ℕ) (own : List RowChange) → own ≡ [] → flush_answer commit base own ≡ answer.Nothing
flush-nothing commit base own is = ap (flush_answer commit base) is

pub flush-conflict : (commit base : ℕ) (own : List RowChange) → (own ≡ [] → ⊥) → (base ≡ commit → ⊥) → flush_answer commit base own ≡ answer.Conflict base commit
flush-conflict commit base [] some other = absurd (some refl)
flush-conflict commit base (change ∷ more) some other =
    elim (base == commit) as (λ b. (base == commit) ≡ b → cond b (answer.Committed (commit + 1) None) (answer.Conflict base commit) ≡ answer.Conflict base commit) [
      | true ↦ λ e. absurd (other (eqb-true base commit e))
      | false ↦ λ e. refl
    ] refl

pub flush-commits : (commit base : ℕ) (own : List RowChange) → (own ≡ [] → ⊥) → base ≡ commit → flush_answer commit base own ≡ answer.Committed (commit + 1) None
flush-commits commit base [] some here = absurd (some refl)
flush-commits commit base (change ∷ more) some here = ap (λ b. cond b (answer.Committed (commit + 1) None) (answer.Conflict base commit)) (eq-eqb base commit here)

-- ---- an actor's own steps

-- the commit number goes by the entries alone
books-commit : (start : Newest) (books next : Books) (journal : List JournalEntry) → start.commit ≡ books.commit → all_booked (Some books) journal ≡ Some next → (newest_after start journal).commit ≡ next.commit
books-commit start books next [] same e = same ∙ ap (λ (b : Books). b.commit) (same_Some _ _ e)
books-commit start books next (entry ∷ more) same e =
    elim (booked books entry.actor entry.step) as (λ o. booked books entry.actor entry.step ≡ o → all_booked o more ≡ Some next → (newest_after (newest_step start entry.step) more).commit ≡ next.commit) [
      | None ↦ λ is e. absurd (none-some next (sym (all_booked-none more) ∙ e))
      | Some here ↦ λ is e. books-commit (newest_step start entry.step) here next more
          ((λ i. (newest_step (record { rows = start.rows; commit = same i }) entry.step).commit) ∙ booked-commit books here start.rows entry.actor entry.step _ (not_stopped books here entry.actor entry.step is).1) e
    ] refl e

-- the books before and after a step of an actor who has a seat
record Goes (start : Newest) (journal : List JournalEntry) (actor : ℕ) (st : Step) (txn : Option Pinned) : Type 0 where
  old : Books
  new : Books
  was : seat_in actor old ≡ (false, txn)
  done : booked_in old actor st txn ≡ Some new
  seat : seat_of start (entered journal actor st) actor ≡ Some (seat_in actor new)
  commit : (newest_after start journal).commit ≡ old.commit

goes : (start : Newest) (journal : List JournalEntry) (actor : ℕ) (st : Step) (txn : Option Pinned) → seat_of start journal actor ≡ Some (false, txn)
    → is_some (books_after start (entered journal actor st)) ≡ true → Goes start journal actor st txn
goes start journal actor st txn seat there =
    elim (books_after start journal) as (λ o. books_after start journal ≡ o → option_map (seat_in actor) o ≡ Some (false, txn) → Goes start journal actor st txn) [
      | None ↦ λ is seat. absurd (none-some _ seat)
      | Some old ↦ λ is seat.
          let was : seat_in actor old ≡ (false, txn) = same_Some _ _ seat in
          let next : books_after start (entered journal actor st) ≡ booked old actor st = all_booked-append (Some ((opening start).books)) journal _ ∙ ap (λ o. all_booked o (record { actor = actor; step = st } ∷ [])) is in
          elim (booked old actor st) as (λ o. booked old actor st ≡ o → is_some o ≡ true → Goes start journal actor st txn) [
            | None ↦ λ step some. absurd (false≢true some)
            | Some new ↦ λ step some. record {
              old = old;
              new = new;
              was = was;
              done = subst (λ t. booked_in old actor st t ≡ Some new) (ap (λ (p : Seat). p.1) was) (not_stopped old new actor st step).1;
              seat = ap (option_map (seat_in actor)) (next ∙ step);
              commit = books-commit start ((opening start).books) old journal refl is;
            }
          ] refl (sym (ap is_some next) ∙ there)
    ] refl seat

module _ (start : Newest) (journal : List JournalEntry) (actor : ℕ) where
  pub seat-begun : (mode : Mode) → seat_of start journal actor ≡ Some (false, None) → is_some (books_after start (entered journal actor (step.Begin mode))) ≡ true
      → seat_of start (entered journal actor (step.Begin mode)) actor ≡ Some (false, Some (record { mode = mode; base = (newest_after start journal).commit }))
  seat-begun mode seat there =
      let g = goes start journal actor (step.Begin mode) None seat there in
      elim (is_some (holder g.old mode)) as (λ b. cond b None (Some (pinned g.old actor (record { mode = mode; base = g.old.commit }))) ≡ Some g.new
      → seat_of start (entered journal actor (step.Begin mode)) actor ≡ Some (false, Some (record { mode = mode; base = (newest_after start journal).commit }))) [
        | true ↦ λ done. absurd (none-some _ done)
        | false ↦ λ done. g.seat ∙ ap (λ b. Some (seat_in actor b)) (sym (same_Some _ _ done))
            ∙ (λ i. Some ((g.was i).0, get-inserted g.old.txns actor (record { mode = mode; base = sym g.commit i }) i))
      ] g.done

  pub seat-flushed : (txn : OpenTxn) → seat_of start journal actor ≡ Some (false, Some (pinned_of txn))
      → is_some (books_after start (entered journal actor (step.Flush txn.own (version_of (flush_answer (newest_after start journal).commit txn.base txn.own))))) ≡ true
      → seat_of start (entered journal actor (step.Flush txn.own (version_of (flush_answer (newest_after start journal).commit txn.base txn.own)))) actor
      ≡ Some (false, Some (pinned_of (txn_flushed txn (flush_answer (newest_after start journal).commit txn.base txn.own))))
  seat-flushed txn seat there =
      let a : FlushAnswer = flush_answer (newest_after start journal).commit txn.base txn.own in
      let g = goes start journal actor (step.Flush txn.own (version_of a)) (Some (pinned_of txn)) seat there in
      let made : committed g.old actor (pinned_of txn) (version_of a) ≡ g.new =
      elim (same_version (version_of a) (version_of (flush_answer g.old.commit txn.base txn.own))) as (λ b. cond b (Some (committed g.old actor (pinned_of txn) (version_of a))) None ≡ Some g.new → committed g.old actor (pinned_of txn) (version_of a) ≡ g.new) [
        | true ↦ λ done. same_Some _ _ done
        | false ↦ λ done. absurd (none-some _ done)
      ] g.done in
      let here : seat_in actor (committed g.old actor (pinned_of txn) (version_of a)) ≡ (false, Some (pinned_of (txn_flushed txn a))) =
      flush_cases (λ a. seat_in actor (committed g.old actor (pinned_of txn) (version_of a)) ≡ (false, Some (pinned_of (txn_flushed txn a)))) (newest_after start journal).commit txn.base txn.own
      g.was
      (λ base. λ i. ((g.was i).0, get-inserted g.old.txns actor (record { mode = txn.mode; base = (newest_after start journal).commit + 1 }) i))
      g.was in
      g.seat ∙ ap Some (ap (seat_in actor) (sym made) ∙ here)

  pub seat-reverted : (txn : Pinned) → seat_of start journal actor ≡ Some (false, Some txn) → is_some (books_after start (entered journal actor step.Revert)) ≡ true
      → seat_of start (entered journal actor step.Revert) actor ≡ Some (false, Some (record { mode = txn.mode; base = (newest_after start journal).commit }))
  seat-reverted txn seat there =
      let g = goes start journal actor step.Revert (Some txn) seat there in
      g.seat ∙ ap (λ b. Some (seat_in actor b)) (sym (same_Some _ _ g.done))
      ∙ (λ i. Some ((g.was i).0, get-inserted g.old.txns actor (record { mode = txn.mode; base = sym g.commit i }) i))

  pub seat-ended : (txn : Pinned) → seat_of start journal actor ≡ Some (false, Some txn) → is_some (books_after start (entered journal actor step.End)) ≡ true
      → seat_of start (entered journal actor step.End) actor ≡ Some (false, None)
  seat-ended txn seat there =
      let g = goes start journal actor step.End (Some txn) seat there in
      g.seat ∙ ap (λ b. Some (seat_in actor b)) (sym (same_Some _ _ g.done)) ∙ (λ i. Some ((g.was i).0, get-removed g.old.txns actor i))

  pub seat-synced : (txn : Option Pinned) → seat_of start journal actor ≡ Some (false, txn) → is_some (books_after start (entered journal actor step.Sync)) ≡ true
      → seat_of start (entered journal actor step.Sync) actor ≡ Some (false, txn)
  seat-synced txn seat there =
      let g = goes start journal actor step.Sync txn seat there in
      g.seat ∙ ap (λ b. Some (seat_in actor b)) (sym (same_Some _ _ g.done)) ∙ ap Some g.was

  pub seat-stopped : (line : ℕ) (cause : Cause) (origin : Origin) (txn : Option Pinned) → seat_of start journal actor ≡ Some (false, txn) → is_some (books_after start (entered journal actor (step.Stop line cause origin))) ≡ true
      → seat_of start (entered journal actor (step.Stop line cause origin)) actor ≡ Some (true, None)
  seat-stopped line cause origin txn seat there =
      let g = goes start journal actor (step.Stop line cause origin) txn seat there in
      g.seat ∙ ap (λ b. Some (seat_in actor b)) (sym (same_Some _ _ g.done)) ∙ (λ i. Some (is_some (get-inserted g.old.stopped actor tt i), get-removed g.old.txns actor i))

-- ---- steps of others

-- the seat of another actor
seat_other : (old new : Books) (q a : ℕ) (st : Step) (t : Option Pinned) → (q == a) ≡ false → booked_in old a st t ≡ Some new → seat_in q new ≡ seat_in q old
seat_other old new q a (step.Begin mode) None other e =
    elim (is_some (holder old mode)) as (λ b. cond b None (Some (pinned old a (record { mode = mode; base = old.commit }))) ≡ Some new → seat_in q new ≡ seat_in q old) [
      | true ↦ λ is. absurd (none-some new is)
      | false ↦ λ is. ap (seat_in q) (sym (same_Some _ _ is)) ∙ (λ i. (is_some (get old.stopped q), get-inserted_other old.txns a q (record { mode = mode; base = old.commit }) other i))
    ] e
seat_other old new q a (step.Begin mode) (Some t) other e = absurd (none-some new e)
seat_other old new q a (step.Flush changes version) None other e = absurd (none-some new e)
seat_other old new q a (step.Flush changes None) (Some t) other e =
    elim (same_version None (version_of (flush_answer old.commit t.base changes))) as (λ b. cond b (Some old) None ≡ Some new → seat_in q new ≡ seat_in q old) [
      | true ↦ λ is. ap (seat_in q) (sym (same_Some _ _ is))
      | false ↦ λ is. absurd (none-some new is)
    ] e
seat_other old new q a (step.Flush changes (Some version)) (Some t) other e =
    elim (same_version (Some version) (version_of (flush_answer old.commit t.base changes))) as (λ b. cond b (Some (committed old a t (Some version))) None ≡ Some new → seat_in q new ≡ seat_in q old) [
      | true ↦ λ is. ap (seat_in q) (sym (same_Some _ _ is)) ∙ (λ i. (is_some (get old.stopped q), get-inserted_other old.txns a q (record t { base = version }) other i))
      | false ↦ λ is. absurd (none-some new is)
    ] e
seat_other old new q a step.Revert None other e = absurd (none-some new e)
seat_other old new q a step.Revert (Some t) other e = ap (seat_in q) (sym (same_Some _ _ e)) ∙ (λ i. (is_some (get old.stopped q), get-inserted_other old.txns a q (record t { base = old.commit }) other i))
seat_other old new q a step.End None other e = absurd (none-some new e)
seat_other old new q a step.End (Some t) other e = ap (seat_in q) (sym (same_Some _ _ e)) ∙ (λ i. (is_some (get old.stopped q), get-removed_other old.txns a q other i))
seat_other old new q a step.Sync t other e = ap (seat_in q) (sym (same_Some _ _ e))
seat_other old new q a (step.Stop line cause origin) t other e =
    ap (seat_in q) (sym (same_Some _ _ e)) ∙ (λ i. (is_some (get-inserted_other old.stopped a q tt other i), get-removed_other old.txns a q other i))

flipped : (a b : ℕ) → (a == b) ≡ false → (b == a) ≡ false
flipped a b e = elim (b == a) as (λ p. (b == a) ≡ p → p ≡ false) [ true ↦ λ f. absurd (false≢true (sym e ∙ eq-eqb a b (sym (eqb-true b a f)))) | false ↦ λ f. refl ] refl

pub seat-beside : (start : Newest) (journal : List JournalEntry) (q a : ℕ) (st : Step) → (a == q) ≡ false → is_some (books_after start (entered journal a st)) ≡ true → seat_of start (entered journal a st) q ≡ seat_of start journal q
seat-beside start journal q a st apart there =
    elim (books_after start journal) as (λ o. books_after start journal ≡ o → seat_of start (entered journal a st) q ≡ option_map (seat_in q) o) [
      | None ↦ λ is. absurd (false≢true (sym (ap is_some (all_booked-append (Some ((opening start).books)) journal _ ∙ ap (λ o. all_booked o (record { actor = a; step = st } ∷ [])) is)) ∙ there))
      | Some old ↦ λ is.
          let next : books_after start (entered journal a st) ≡ booked old a st = all_booked-append (Some ((opening start).books)) journal _ ∙ ap (λ o. all_booked o (record { actor = a; step = st } ∷ [])) is in
          elim (booked old a st) as (λ o. booked old a st ≡ o → is_some o ≡ true → seat_of start (entered journal a st) q ≡ Some (seat_in q old)) [
            | None ↦ λ b some. absurd (false≢true some)
            | Some new ↦ λ b some. ap (option_map (seat_in q)) (next ∙ b) ∙ ap Some (seat_other old new q a st _ (flipped a q apart) (not_stopped old new a st b).1)
          ] refl (sym (ap is_some next) ∙ there)
    ] refl
