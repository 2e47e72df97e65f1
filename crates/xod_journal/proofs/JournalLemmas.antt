-- Where a journal has come: its parts, one step more, and the rows at each commit.
use Rattle.std.proofs.Common.{◌≡◌, ℕ, ◌+◌, ◌≤◌, true, false, cond, List, [], ◌∷◌, ◌++◌, Option, Some, None, refl, sym, ap, subst, ◌∙◌, arith, append_assoc, append-nil, eqb-true, leb-true, le-leb}
use Rattle.std.specs.Prelude.{option_and_then, option_map, nat_le, ◌==◌, is_some, if◌then◌else◌}
use Rattle.std.specs.Ordering.{nat_cmp, eq_by_cmp}
use Rattle.std.specs.Cmp.{unsigned_tied}
use Rattle.std.proofs.lemmas.Cmp.{nat_cmp_total}
use Rattle.std.proofs.lemmas.Option.{none-some, same_Some}
use Rattle.std.proofs.lemmas.Bool.{false≢true}
use Rattle.std.specs.FinMap.{FinMap, get, insert, remove, get-insert, get-remove, get-empty}
use Rattle.xod_base.specs.Rows.{RowsValue}
use Rattle.xod_journal.specs.declared.change.RowChange.{RowChange}
use Rattle.xod_journal.specs.Changes.{all_applied}
use Rattle.xod_base.specs.declared.answer.FlushAnswer.TheVariants as answer
use Rattle.xod_base.specs.declared.query.Mode.{Mode}
use Rattle.xod_base.specs.declared.causes.Cause.{Cause}
use Rattle.xod_journal.specs.declared.journal.Origin.{Origin}
use Rattle.xod_journal.specs.declared.journal.Step.{Step}
use Rattle.xod_journal.specs.declared.journal.Step.TheVariants.{Begin, Flush, Revert, End, Sync, Stop}
use Rattle.xod_journal.specs.declared.journal.Pinned.{Pinned}
use Rattle.xod_journal.specs.declared.journal.JournalEntry.{JournalEntry}
use Rattle.xod_journal.specs.Books.{Books, booked, booked_in, all_booked, has_stopped, holder, pinned, unpinned, committed, same_version, version_of, flush_answer}
use Rattle.xod_journal.specs.Standing.{Newest, Standing, opening, after, after_step, moved, changes_fit, newest_step, newest_after, rows_step, rows_at}
use Rattle.xod_journal.specs.Laws.{IsTold}
use Rattle.xod_journal.specs.Seats.{entered}

-- ---- journals that go on

pub after-append : (now : Option Standing) (journal more : List JournalEntry) → after now (journal ++ more) ≡ after (after now journal) more
after-append now [] more = refl
after-append now (entry ∷ journal) more = after-append (option_and_then (λ here. after_step here entry.actor entry.step) now) journal more

pub all_booked-append : (now : Option Books) (journal more : List JournalEntry) → all_booked now (journal ++ more) ≡ all_booked (all_booked now journal) more
all_booked-append now [] more = refl
all_booked-append now (entry ∷ journal) more = all_booked-append (option_and_then (λ here. booked here entry.actor entry.step) now) journal more

pub newest_after-append : (now : Newest) (journal more : List JournalEntry) → newest_after now (journal ++ more) ≡ newest_after (newest_after now journal) more
newest_after-append now [] more = refl
newest_after-append now (entry ∷ journal) more = newest_after-append (newest_step now entry.step) journal more

pub rows_at-append : (n : ℕ) (rows : RowsValue) (journal more : List JournalEntry) → rows_at n rows (journal ++ more) ≡ rows_at n (rows_at n rows journal) more
rows_at-append n rows [] more = refl
rows_at-append n rows (entry ∷ journal) more = rows_at-append n (rows_step n rows entry.step) journal more

pub after-none : (journal : List JournalEntry) → after None journal ≡ None
after-none [] = refl
after-none (entry ∷ more) = after-none more

pub all_booked-none : (journal : List JournalEntry) → all_booked None journal ≡ None
all_booked-none [] = refl
all_booked-none (entry ∷ more) = all_booked-none more

-- ---- one step more

-- what a step that is taken makes
pub record Stepped (now : Standing) (actor : ℕ) (step : Step) (next : Standing) : Type 0 where
  pub fit : changes_fit now actor step ≡ true
  pub booked : booked now.books actor step ≡ Some next.books
  pub moved : moved now actor step next.books ≡ next

pub stepped : (now next : Standing) (actor : ℕ) (step : Step) → after_step now actor step ≡ Some next → Stepped now actor step next
unfolding after_step
stepped now next actor step e =
    elim (changes_fit now actor step) as (λ b. changes_fit now actor step ≡ b → cond b (option_map (moved now actor step) (booked now.books actor step)) None ≡ Some next → Stepped now actor step next) [
      | true ↦ λ fit is. elim (booked now.books actor step) as (λ o. booked now.books actor step ≡ o → option_map (moved now actor step) o ≡ Some next → Stepped now actor step next) [
        | None ↦ λ b m. absurd (none-some next m)
        | Some books ↦ λ b m. let same : moved now actor step books ≡ next = same_Some _ _ m in
            let here : books ≡ next.books = ap (λ (s : Standing). s.books) same in
            record { fit = fit; booked = b ∙ ap Some here; moved = ap (moved now actor step) (sym here) ∙ same }
      ] refl is
      | false ↦ λ fit is. absurd (none-some next is)
    ] refl e

pub not_stopped : (books next : Books) (actor : ℕ) (step : Step) → booked books actor step ≡ Some next → (has_stopped books actor ≡ false) × (booked_in books actor step (get books.txns actor) ≡ Some next)
unfolding booked
not_stopped books next actor step e =
    elim (has_stopped books actor) as (λ b. has_stopped books actor ≡ b → cond b None (booked_in books actor step (get books.txns actor)) ≡ Some next → (has_stopped books actor ≡ false) × (booked_in books actor step (get books.txns actor) ≡ Some next)) [
      | true ↦ λ b is. absurd (none-some next is)
      | false ↦ λ b is. (b, is)
    ] refl e

-- where a journal stands, and where its books stand
pub after-booked : (start now : Standing) (journal : List JournalEntry) → after (Some start) journal ≡ Some now → all_booked (Some start.books) journal ≡ Some now.books
after-booked start now [] e = ap (option_map (λ (s : Standing). s.books)) e
after-booked start now (entry ∷ more) e =
    elim (after_step start entry.actor entry.step) as (λ o. after_step start entry.actor entry.step ≡ o → after o more ≡ Some now → all_booked (booked start.books entry.actor entry.step) more ≡ Some now.books) [
      | None ↦ λ is e. absurd (none-some now (sym (after-none more) ∙ e))
      | Some next ↦ λ is e. let s = stepped start next entry.actor entry.step is in ap (λ o. all_booked o more) s.booked ∙ after-booked next now more e
    ] refl e

-- ---- the newest rows and commit go by the entries alone

pub booked-commit : (books next : Books) (rows : RowsValue) (actor : ℕ) (step : Step) (txn : Option Pinned) → booked_in books actor step txn ≡ Some next → (newest_step (record { rows = rows; commit = books.commit }) step).commit ≡ next.commit
booked-commit books next rows actor (Begin mode) None e =
    elim (is_some (holder books mode)) as (λ b. cond b None (Some (pinned books actor (record { mode = mode; base = books.commit }))) ≡ Some next → books.commit ≡ next.commit) [
      | true ↦ λ is. absurd (none-some next is)
      | false ↦ λ is. ap (λ (b : Books). b.commit) (same_Some _ _ is)
    ] e
booked-commit books next rows actor (Begin mode) (Some txn) e = absurd (none-some next e)
booked-commit books next rows actor (Flush changes version) None e = absurd (none-some next e)
booked-commit books next rows actor (Flush changes None) (Some txn) e =
    elim (same_version None (version_of (flush_answer books.commit txn.base changes))) as (λ b. cond b (Some books) None ≡ Some next → books.commit ≡ next.commit) [
      | true ↦ λ is. ap (λ (b : Books). b.commit) (same_Some _ _ is)
      | false ↦ λ is. absurd (none-some next is)
    ] e
booked-commit books next rows actor (Flush changes (Some version)) (Some txn) e =
    elim (same_version (Some version) (version_of (flush_answer books.commit txn.base changes))) as (λ b. cond b (Some (committed books actor txn (Some version))) None ≡ Some next → version ≡ next.commit) [
      | true ↦ λ is. ap (λ (b : Books). b.commit) (same_Some _ _ is)
      | false ↦ λ is. absurd (none-some next is)
    ] e
booked-commit books next rows actor Revert None e = absurd (none-some next e)
booked-commit books next rows actor Revert (Some txn) e = ap (λ (b : Books). b.commit) (same_Some _ _ e)
booked-commit books next rows actor End None e = absurd (none-some next e)
booked-commit books next rows actor End (Some txn) e = ap (λ (b : Books). b.commit) (same_Some _ _ e)
booked-commit books next rows actor Sync txn e = ap (λ (b : Books). b.commit) (same_Some _ _ e)
booked-commit books next rows actor (Stop line cause origin) txn e = ap (λ (b : Books). b.commit) (same_Some _ _ e)

abbrev pub newest_here : Standing → Newest
newest_here now = record { rows = now.rows; commit = now.books.commit }

pub step-newest : (now next : Standing) (actor : ℕ) (step : Step) → after_step now actor step ≡ Some next → newest_step (newest_here now) step ≡ newest_here next
step-newest now next actor step e =
    let s = stepped now next actor step e in
    let commit = booked-commit now.books next.books now.rows actor step _ (not_stopped now.books next.books actor step s.booked).1 in
    let rows = ap (λ (n : Standing). n.rows) s.moved in
    λ i. record { rows = rows i; commit = commit i }

pub after-newest : (start now : Standing) (journal : List JournalEntry) → after (Some start) journal ≡ Some now → newest_after (newest_here start) journal ≡ newest_here now
after-newest start now [] e = ap newest_here (same_Some _ _ e)
after-newest start now (entry ∷ more) e =
    elim (after_step start entry.actor entry.step) as (λ o. after_step start entry.actor entry.step ≡ o → after o more ≡ Some now → newest_after (newest_step (newest_here start) entry.step) more ≡ newest_here now) [
      | None ↦ λ is e. absurd (none-some now (sym (after-none more) ∙ e))
      | Some next ↦ λ is e. ap (λ n. newest_after n more) (step-newest start next entry.actor entry.step is) ∙ after-newest next now more e
    ] refl e

-- ---- rows at each commit

tied : (q actor : ℕ) → eq_by_cmp nat_cmp q actor ≡ true → q ≡ actor
tied q actor e = eqb-true q actor (sym (unsigned_tied q actor) ∙ e)

-- what holds of each open transaction and its rows, where both get one more, or lose one
module _ (P : Pinned → Option RowsValue → Type 0) (txns : FinMap nat_cmp Pinned) (bases : FinMap nat_cmp RowsValue) (actor : ℕ)
    (each : (q : ℕ) (txn : Pinned) → get txns q ≡ Some txn → P txn (get bases q)) where
  pub both_inserted : (t : Pinned) (rows : RowsValue) → P t (Some rows) → (q : ℕ) (txn : Pinned) → get (insert txns actor t) q ≡ Some txn → P txn (get (insert bases actor rows) q)
  both_inserted t rows new q txn e =
      subst (P txn) (sym (get-insert nat_cmp_total bases actor rows q))
      (elim (eq_by_cmp nat_cmp q actor) as (λ b. cond b (Some t) (get txns q) ≡ Some txn → P txn (cond b (Some rows) (get bases q))) [
        | true ↦ λ is. subst (λ x. P x (Some rows)) (same_Some _ _ is) new
        | false ↦ λ is. each q txn is
      ] (sym (get-insert nat_cmp_total txns actor t q) ∙ e))

  pub both_removed : (q : ℕ) (txn : Pinned) → get (remove txns actor) q ≡ Some txn → P txn (get (remove bases actor) q)
  both_removed q txn e =
      subst (P txn) (sym (get-remove nat_cmp_total bases actor q))
      (elim (eq_by_cmp nat_cmp q actor) as (λ b. cond b None (get txns q) ≡ Some txn → P txn (cond b None (get bases q))) [
        | true ↦ λ is. absurd (none-some txn is)
        | false ↦ λ is. each q txn is
      ] (sym (get-remove nat_cmp_total txns actor q) ∙ e))

-- an open transaction's rows are those after its base
abbrev pub AtBase : Newest → List JournalEntry → ℕ → Pinned → Option RowsValue → Type 0
AtBase start journal commit txn rows = (txn.base ≤ commit) × (rows ≡ Some (rows_at txn.base start.rows journal))

not_past : (version n commit : ℕ) → version ≡ commit + 1 → n ≤ commit → nat_le version n ≡ false
not_past version n commit v le =
    elim (nat_le version n) as (λ b. nat_le version n ≡ b → b ≡ false) [
      | true ↦ λ e. let at : version ≤ n = leb-true version n e in absurd (omega arith)
      | false ↦ λ e. refl
    ] refl

reached : (version n : ℕ) → version ≤ n → nat_le version n ≡ true
reached version n le = le-leb version n le

-- the version of a commit is the next number
pub versioned : (commit : ℕ) (changes : List RowChange) (base version : ℕ) → same_version (Some version) (version_of (flush_answer commit base changes)) ≡ true → version ≡ commit + 1
versioned commit [] base version e = absurd (false≢true e)
versioned commit (change ∷ more) base version e =
    elim (base == commit) as (λ b. same_version (Some version) (version_of (cond b (answer.Committed (commit + 1) None) (answer.Conflict base commit))) ≡ true → version ≡ commit + 1) [
      | true ↦ λ is. eqb-true version (commit + 1) is
      | false ↦ λ is. absurd (false≢true is)
    ] e

module _ (start : Newest) (journal : List JournalEntry) (now : Standing) (told : IsTold start journal now) (actor : ℕ) where
  abbrev grown : Step → List JournalEntry
  grown step = entered journal actor step

  rows_then : (n : ℕ) (step : Step) → rows_at n start.rows (grown step) ≡ rows_step n (rows_at n start.rows journal) step
  rows_then n step = rows_at-append n start.rows journal _

  newest_then : (step : Step) → newest_after start (grown step) ≡ newest_step (record { rows = now.rows; commit = now.books.commit }) step
  newest_then step = newest_after-append start journal _ ∙ ap (λ n. newest_step n step) told.newest

  -- a step that makes no commit: the parts that are the same for all of them
  module _ (step : Step) (still : (n : ℕ) (rows : RowsValue) → rows_step n rows step ≡ rows) (stays : (n : Newest) → newest_step n step ≡ n) where
    pub quiet : (books : Books) → books.commit ≡ now.books.commit
        → ((q : ℕ) (txn : Pinned) → get books.txns q ≡ Some txn → AtBase start (grown step) books.commit txn (get (moved now actor step books).bases q))
        → IsTold start (grown step) (moved now actor step books)
    quiet books same each = record {
      newest = newest_then step ∙ stays _ ∙ (λ i. record { rows = ap (λ (n : Newest). n.rows) (sym (stays (record { rows = now.rows; commit = now.books.commit }))) i; commit = sym same i });
      past = λ n le. rows_then n step ∙ still n _ ∙ told.past n (omega (arith, same)) ∙ ap (λ (n : Newest). n.rows) (sym (stays _));
      bases = each;
    }

    pub kept : (books : Books) → books.commit ≡ now.books.commit → (q : ℕ) (txn : Pinned) → get now.books.txns q ≡ Some txn → AtBase start (grown step) books.commit txn (get now.bases q)
    kept books same q txn e = let old = told.bases q txn e in let le = old.0 in (omega arith, old.1 ∙ ap Some (sym (rows_then txn.base step ∙ still _ _)))

    pub fresh : (mode : Mode) (books : Books) → books.commit ≡ now.books.commit → AtBase start (grown step) books.commit (record { mode = mode; base = now.books.commit }) (Some now.rows)
    fresh mode books same = (omega arith, ap Some (sym (rows_then now.books.commit step ∙ still _ _ ∙ told.past _ (omega arith))))

  begin-told : (mode : Mode) → IsTold start (grown (Begin mode)) (moved now actor (Begin mode) (pinned now.books actor (record { mode = mode; base = now.books.commit })))
  begin-told mode =
      quiet (Begin mode) (λ _ _. refl) (λ _. refl) _ refl
      (both_inserted (AtBase start (grown (Begin mode)) now.books.commit) now.books.txns now.bases actor (kept (Begin mode) (λ _ _. refl) (λ _. refl) now.books refl)
      (record { mode = mode; base = now.books.commit }) now.rows (fresh (Begin mode) (λ _ _. refl) (λ _. refl) mode now.books refl))

  revert-told : (mode : Mode) → IsTold start (grown Revert) (moved now actor Revert (pinned now.books actor (record { mode = mode; base = now.books.commit })))
  revert-told mode =
      quiet Revert (λ _ _. refl) (λ _. refl) _ refl
      (both_inserted (AtBase start (grown Revert) now.books.commit) now.books.txns now.bases actor (kept Revert (λ _ _. refl) (λ _. refl) now.books refl)
      (record { mode = mode; base = now.books.commit }) now.rows (fresh Revert (λ _ _. refl) (λ _. refl) mode now.books refl))

  end-told : IsTold start (grown End) (moved now actor End (unpinned now.books actor))
  end-told = quiet End (λ _ _. refl) (λ _. refl) _ refl (both_removed (AtBase start (grown End) now.books.commit) now.books.txns now.bases actor (kept End (λ _ _. refl) (λ _. refl) now.books refl))

  sync-told : IsTold start (grown Sync) (moved now actor Sync (record now.books { synced = now.books.commit }))
  sync-told = quiet Sync (λ _ _. refl) (λ _. refl) _ refl (kept Sync (λ _ _. refl) (λ _. refl) now.books refl)

  stop-told : (line : ℕ) (cause : Cause) (origin : Origin) → IsTold start (grown (Stop line cause origin)) (moved now actor (Stop line cause origin) (record (unpinned now.books actor) { stopped = insert now.books.stopped actor tt }))
  stop-told line cause origin = quiet (Stop line cause origin) (λ _ _. refl) (λ _. refl) _ refl (both_removed (AtBase start (grown (Stop line cause origin)) now.books.commit) now.books.txns now.bases actor (kept (Stop line cause origin) (λ _ _. refl) (λ _. refl) now.books refl))

  nothing-told : (changes : List RowChange) → IsTold start (grown (Flush changes None)) (moved now actor (Flush changes None) now.books)
  nothing-told changes = quiet (Flush changes None) (λ _ _. refl) (λ _. refl) _ refl (kept (Flush changes None) (λ _ _. refl) (λ _. refl) now.books refl)

  commit-told : (changes : List RowChange) (mode : Mode) (version : ℕ) → version ≡ now.books.commit + 1
      → IsTold start (grown (Flush changes (Some version))) (moved now actor (Flush changes (Some version)) (record (pinned now.books actor (record { mode = mode; base = version })) { commit = version }))
  commit-told changes mode version next =
      let step : Step = Flush changes (Some version) in
      let rows : RowsValue = all_applied now.rows changes in
      let there : (n : ℕ) → version ≤ n → rows_at n start.rows (grown step) ≡ rows = λ n le.
      rows_then n step ∙ ap (λ b. cond b (all_applied (rows_at n start.rows journal) changes) (rows_at n start.rows journal)) (reached version n le) ∙ ap (λ r. all_applied r changes) (told.past n (omega arith)) in
      record {
        newest = newest_then step;
        past = there;
        bases = both_inserted (AtBase start (grown step) version) now.books.txns now.bases actor
            (λ q txn e. let old = told.bases q txn e in let le = old.0 in (omega arith, old.1 ∙ ap Some (sym (rows_then txn.base step ∙ ap (λ b. cond b (all_applied (rows_at txn.base start.rows journal) changes) (rows_at txn.base start.rows journal)) (not_past version txn.base now.books.commit next old.0)))))
            (record { mode = mode; base = version }) rows (omega arith, ap Some (sym (there version (omega arith))));
      }

  flushed : (changes : List RowChange) (txn : Pinned) (version : Option ℕ) (books : Books)
      → (if same_version version (version_of (flush_answer now.books.commit txn.base changes)) then Some (committed now.books actor txn version) else None) ≡ Some books
      → IsTold start (grown (Flush changes version)) (moved now actor (Flush changes version) books)
  flushed changes txn None books e =
      elim (same_version None (version_of (flush_answer now.books.commit txn.base changes))) as (λ b. cond b (Some now.books) None ≡ Some books → IsTold start (grown (Flush changes None)) (moved now actor (Flush changes None) books)) [
        | true ↦ λ is. subst (λ b. IsTold start (grown (Flush changes None)) (moved now actor (Flush changes None) b)) (same_Some _ _ is) (nothing-told changes)
        | false ↦ λ is. absurd (none-some books is)
      ] e
  flushed changes txn (Some version) books e =
      let made : Books = committed now.books actor txn (Some version) in
      let next : same_version (Some version) (version_of (flush_answer now.books.commit txn.base changes)) ≡ true → version ≡ now.books.commit + 1 = versioned now.books.commit changes txn.base version in
      elim (same_version (Some version) (version_of (flush_answer now.books.commit txn.base changes))) as (λ b. (b ≡ true → version ≡ now.books.commit + 1) → cond b (Some made) None ≡ Some books → IsTold start (grown (Flush changes (Some version))) (moved now actor (Flush changes (Some version)) books)) [
        | true ↦ λ next is. subst (λ b. IsTold start (grown (Flush changes (Some version))) (moved now actor (Flush changes (Some version)) b)) (same_Some _ _ is) (commit-told changes txn.mode version (next refl))
        | false ↦ λ next is. absurd (none-some books is)
      ] next e

  booked-told : (step : Step) (txn : Option Pinned) (books : Books) → booked_in now.books actor step txn ≡ Some books → IsTold start (grown step) (moved now actor step books)
  booked-told (Begin mode) None books e =
      elim (is_some (holder now.books mode)) as (λ b. cond b None (Some (pinned now.books actor (record { mode = mode; base = now.books.commit }))) ≡ Some books → IsTold start (grown (Begin mode)) (moved now actor (Begin mode) books)) [
        | true ↦ λ is. absurd (none-some books is)
        | false ↦ λ is. subst (λ b. IsTold start (grown (Begin mode)) (moved now actor (Begin mode) b)) (same_Some _ _ is) (begin-told mode)
      ] e
  booked-told (Begin mode) (Some txn) books e = absurd (none-some books e)
  booked-told (Flush changes version) None books e = absurd (none-some books e)
  booked-told (Flush changes version) (Some txn) books e = flushed changes txn version books e
  booked-told Revert None books e = absurd (none-some books e)
  booked-told Revert (Some txn) books e = subst (λ b. IsTold start (grown Revert) (moved now actor Revert b)) (same_Some _ _ e) (revert-told txn.mode)
  booked-told End None books e = absurd (none-some books e)
  booked-told End (Some txn) books e = subst (λ b. IsTold start (grown End) (moved now actor End b)) (same_Some _ _ e) end-told
  booked-told Sync txn books e = subst (λ b. IsTold start (grown Sync) (moved now actor Sync b)) (same_Some _ _ e) sync-told
  booked-told (Stop line cause origin) txn books e = subst (λ b. IsTold start (grown (Stop line cause origin)) (moved now actor (Stop line cause origin) b)) (same_Some _ _ e) (stop-told line cause origin)

pub step-told : (start : Newest) (journal : List JournalEntry) (now next : Standing) (entry : JournalEntry) → IsTold start journal now → after_step now entry.actor entry.step ≡ Some next → IsTold start (journal ++ entry ∷ []) next
step-told start journal now next entry told e =
    let s = stepped now next entry.actor entry.step e in
    subst (IsTold start (journal ++ entry ∷ [])) s.moved (booked-told start journal now told entry.actor entry.step _ next.books (not_stopped now.books next.books entry.actor entry.step s.booked).1)

pub after-told : (start : Newest) (journal more : List JournalEntry) (now next : Standing) → IsTold start journal now → after (Some now) more ≡ Some next → IsTold start (journal ++ more) next
after-told start journal [] now next told e = subst (IsTold start (journal ++ [])) (same_Some _ _ e) (subst (λ j. IsTold start j now) (sym (append-nil journal)) told)
after-told start journal (entry ∷ more) now next told e =
    elim (after_step now entry.actor entry.step) as (λ o. after_step now entry.actor entry.step ≡ o → after o more ≡ Some next → IsTold start (journal ++ entry ∷ more) next) [
      | None ↦ λ is e. absurd (none-some next (sym (after-none more) ∙ e))
      | Some here ↦ λ is e. subst (λ j. IsTold start j next) (append_assoc journal (entry ∷ []) more) (after-told start (journal ++ entry ∷ []) more here next (step-told start journal now here entry told is) e)
    ] refl e

pub opening-told : (start : Newest) (now : Standing) (journal : List JournalEntry) → after (Some (opening start)) journal ≡ Some now → IsTold start journal now
opening-told start now journal e = after-told start [] journal (opening start) now (record {
  newest = refl;
  past = λ n le. refl;
  bases = λ actor txn is. absurd (none-some txn (sym (get-empty nat_cmp actor) ∙ is));
}) e
