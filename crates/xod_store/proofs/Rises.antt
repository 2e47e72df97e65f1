-- Numbers of commits only rise along a journal, and what an entry makes of the newest synced one.
use Rattle.std.proofs.Common.{◌≡◌, ◌≤◌, ℕ, ◌+◌, Bool, true, false, cond, List, [], ◌∷◌, Option, Some, None, refl, sym, ap, subst, ◌∙◌, arith, eqb-true}
use Rattle.std.specs.Prelude.{is_some, ◌==◌, option_map, unwrap_or}
use Rattle.std.specs.Ordering.{nat_cmp}
use Rattle.std.specs.FinMap.{get, get-empty, insert, remove}
use Rattle.std.proofs.lemmas.Bool.{false≢true}
use Rattle.std.proofs.lemmas.Option.{none-some, same_Some}
use Rattle.xod_journal.specs.declared.journal.JournalEntry.{JournalEntry}
use Rattle.xod_journal.specs.declared.journal.Pinned.{Pinned}
use Rattle.xod_journal.specs.declared.journal.Step.{Step}
use Rattle.xod_journal.specs.declared.journal.Step.TheVariants.{Begin, Revert, Flush, End, Sync, Stop}
use Rattle.xod_journal.specs.Books.{Books, all_booked, booked, booked_in, committed, flush_answer, holder, pinned, same_version, version_of}
use Rattle.xod_journal.specs.Seats.{books_after, entered}
use Rattle.xod_base.specs.Rows.{RowsValue}
use Rattle.xod_journal.specs.Standing.{Newest, opening, rows_at, rows_step}
use Rattle.xod_journal.proofs.CallerLemmas.{all_booked-append, get-inserted, get-inserted_other, get-removed, get-removed_other}
use Rattle.xod_journal.proofs.JournalLemmas.{all_booked-none, not_stopped, versioned}
use Rattle.xod_store.specs.Images.{synced_in}
use Rattle.xod_store.proofs.Safe.{commit_step}

-- No number is above the newest commit, which is not below the first one.
pub record Rises (first : ℕ) (books : Books) : Type 0 where
  pub low : first ≤ books.commit
  pub synced : books.synced ≤ books.commit
  pub bases : (q : ℕ) (txn : Pinned) → get books.txns q ≡ Some txn → txn.base ≤ books.commit

-- the newest synced commit after a step
abbrev synced_step : Books → Step → ℕ
synced_step books (Begin mode) = books.synced
synced_step books Revert = books.synced
synced_step books (Flush changes version) = books.synced
synced_step books End = books.synced
synced_step books Sync = books.commit
synced_step books (Stop line reason from) = books.synced

-- what a step leaves
record Next (first : ℕ) (books : Books) (st : Step) (next : Books) : Type 0 where
  rises : Rises first books → Rises first next
  synced : next.synced ≡ synced_step books st

by_same : (q actor : ℕ) (P : Bool → Type 0) → ((q == actor) ≡ true → P true) → ((q == actor) ≡ false → P false) → P (q == actor)
by_same q actor P here apart = elim (q == actor) as (λ b. (q == actor) ≡ b → P b) [ true ↦ here | false ↦ apart ] refl

module _ (first : ℕ) (books : Books) (actor : ℕ) where
  -- the transaction of the actor is at a commit that is not above the newest one
  inserted : (commit : ℕ) (t : Pinned) → t.base ≤ commit → books.commit ≤ commit → Rises first books → (q : ℕ) (txn : Pinned) → get (insert books.txns actor t) q ≡ Some txn → txn.base ≤ commit
  inserted commit t low grows old q txn is =
      by_same q actor (λ _. txn.base ≤ commit)
      (λ same. let here = same_Some _ _ (sym (ap (get (insert books.txns actor t)) (eqb-true q actor same) ∙ get-inserted books.txns actor t) ∙ is) in let b = ap (λ (p : Pinned). p.base) here in omega arith)
      (λ apart. let before = old.bases q txn (sym (get-inserted_other books.txns actor q t apart) ∙ is) in omega arith)

  removed : Rises first books → (q : ℕ) (txn : Pinned) → get (remove books.txns actor) q ≡ Some txn → txn.base ≤ books.commit
  removed old q txn is =
      by_same q actor (λ _. txn.base ≤ books.commit)
      (λ same. absurd (none-some txn (sym (ap (get (remove books.txns actor)) (eqb-true q actor same) ∙ get-removed books.txns actor) ∙ is)))
      (λ apart. old.bases q txn (sym (get-removed_other books.txns actor q apart) ∙ is))

  pinned-next : (st : Step) (t : Pinned) (next : Books) → t.base ≡ books.commit → synced_step books st ≡ books.synced → pinned books actor t ≡ next → Next first books st next
  pinned-next st t next base quiet is =
      subst (Next first books st) is (record {
        rises = λ old. record { low = old.low; synced = old.synced; bases = inserted books.commit t (omega (arith, base)) (omega arith) old };
        synced = sym quiet;
      })

  next : (st : Step) (txn : Option Pinned) (next : Books) → booked_in books actor st txn ≡ Some next → Next first books st next
  next (Begin mode) None after e =
      elim (is_some (holder books mode)) as (λ b. cond b None (Some (pinned books actor (record { mode = mode; base = books.commit }))) ≡ Some after → Next first books (Begin mode) after) [
        | true ↦ λ is. absurd (none-some after is)
        | false ↦ λ is. pinned-next (Begin mode) _ after refl refl (same_Some _ _ is)
      ] e
  next (Begin mode) (Some txn) after e = absurd (none-some after e)
  next (Flush changes version) None after e = absurd (none-some after e)
  next (Flush changes None) (Some txn) after e =
      elim (same_version None (version_of (flush_answer books.commit txn.base changes))) as (λ b. cond b (Some books) None ≡ Some after → Next first books (Flush changes None) after) [
        | true ↦ λ is. subst (Next first books (Flush changes None)) (same_Some _ _ is) (record { rises = λ old. old; synced = refl })
        | false ↦ λ is. absurd (none-some after is)
      ] e
  next (Flush changes (Some version)) (Some txn) after e =
      elim (same_version (Some version) (version_of (flush_answer books.commit txn.base changes)))
      as (λ b. same_version (Some version) (version_of (flush_answer books.commit txn.base changes)) ≡ b → cond b (Some (committed books actor txn (Some version))) None ≡ Some after → Next first books (Flush changes (Some version)) after) [
        | true ↦ λ test is.
            let up : version ≡ books.commit + 1 = versioned books.commit changes txn.base version test in
            subst (Next first books (Flush changes (Some version))) (same_Some _ _ is) (record {
              rises = λ old.
                  let low = old.low in
                  let synced = old.synced in
                  record { low = omega arith; synced = omega arith; bases = inserted version (record txn { base = version }) (omega arith) (omega arith) old };
              synced = refl;
            })
        | false ↦ λ test is. absurd (none-some after is)
      ] refl e
  next Revert None after e = absurd (none-some after e)
  next Revert (Some txn) after e = pinned-next Revert _ after refl refl (same_Some _ _ e)
  next End None after e = absurd (none-some after e)
  next End (Some txn) after e =
      subst (Next first books End) (same_Some _ _ e) (record { rises = λ old. record { low = old.low; synced = old.synced; bases = removed old }; synced = refl })
  next Sync txn after e =
      subst (Next first books Sync) (same_Some _ _ e) (record { rises = λ old. record { low = old.low; synced = omega arith; bases = old.bases }; synced = refl })
  next (Stop line reason from) txn after e =
      subst (Next first books (Stop line reason from)) (same_Some _ _ e) (record { rises = λ old. record { low = old.low; synced = old.synced; bases = removed old }; synced = refl })

-- along a journal
rises-along : (first : ℕ) (books last : Books) (journal : List JournalEntry) → Rises first books → all_booked (Some books) journal ≡ Some last → Rises first last
rises-along first books last [] old e = subst (Rises first) (same_Some _ _ e) old
rises-along first books last (entry ∷ more) old e =
    elim (booked books entry.actor entry.step) as (λ o. booked books entry.actor entry.step ≡ o → all_booked o more ≡ Some last → Rises first last) [
      | None ↦ λ is e. absurd (none-some last (sym (all_booked-none more) ∙ e))
      | Some here ↦ λ is e. rises-along first here last more ((next first books entry.actor entry.step _ here (not_stopped books here entry.actor entry.step is).1).rises old) e
    ] refl e

pub rises : (start : Newest) (journal : List JournalEntry) (books : Books) → books_after start journal ≡ Some books → Rises start.commit books
rises start journal books is =
    rises-along start.commit ((opening start).books) books journal
    (record { low = omega arith; synced = omega arith; bases = λ q txn there. absurd (none-some txn (sym (get-empty nat_cmp q) ∙ there)) }) is

-- ---- the newest synced commit

-- whether a step is a sync
abbrev pub is_sync : Step → Bool
is_sync (Begin mode) = false
is_sync Revert = false
is_sync (Flush changes version) = false
is_sync End = false
is_sync Sync = true
is_sync (Stop line reason from) = false

quiet-sync : (books : Books) (st : Step) → is_sync st ≡ false → synced_step books st ≡ books.synced
quiet-sync books (Begin mode) is = refl
quiet-sync books Revert is = refl
quiet-sync books (Flush changes version) is = refl
quiet-sync books End is = refl
quiet-sync books Sync is = absurd (false≢true (sym is))
quiet-sync books (Stop line reason from) is = refl

-- a step that is no sync leaves it
pub same-synced : (start : Newest) (journal : List JournalEntry) (actor : ℕ) (st : Step) → is_sync st ≡ false → is_some (books_after start (entered journal actor st)) ≡ true → synced_in start (entered journal actor st) ≡ synced_in start journal
same-synced start journal actor st quiet there =
    let split : books_after start (entered journal actor st) ≡ all_booked (books_after start journal) (record { actor = actor; step = st } ∷ []) = all_booked-append _ journal _ in
    ap (λ o. unwrap_or (option_map (λ (b : Books). b.synced) o) 0) split ∙ then (books_after start journal) (sym (ap is_some split) ∙ there)
  where
    then : (o : Option Books) → is_some (all_booked o (record { actor = actor; step = st } ∷ [])) ≡ true
        → unwrap_or (option_map (λ (b : Books). b.synced) (all_booked o (record { actor = actor; step = st } ∷ []))) 0 ≡ unwrap_or (option_map (λ (b : Books). b.synced) o) 0
    then None some = absurd (false≢true some)
    then (Some books) some =
        elim (booked books actor st) as (λ o. booked books actor st ≡ o → is_some o ≡ true → unwrap_or (option_map (λ (b : Books). b.synced) o) 0 ≡ books.synced) [
          | None ↦ λ is some. absurd (false≢true some)
          | Some after ↦ λ is some. (next 0 books actor st _ after (not_stopped books after actor st is).1).synced ∙ quiet-sync books st quiet
        ] refl some

-- ---- the rows at the start

-- a step leaves the rows at a number that is not above the newest commit
step-low : (n : ℕ) (books : Books) (actor : ℕ) (st : Step) (txn : Option Pinned) (after : Books) → n ≤ books.commit → booked_in books actor st txn ≡ Some after → (rows : RowsValue) → rows_step n rows st ≡ rows
step-low n books actor (Begin mode) txn after low e rows = refl
step-low n books actor Revert txn after low e rows = refl
step-low n books actor (Flush changes None) txn after low e rows = refl
step-low n books actor (Flush changes (Some version)) None after low e rows = absurd (none-some after e)
step-low n books actor (Flush changes (Some version)) (Some txn) after low e rows =
    elim (same_version (Some version) (version_of (flush_answer books.commit txn.base changes)))
    as (λ b. same_version (Some version) (version_of (flush_answer books.commit txn.base changes)) ≡ b → cond b (Some (committed books actor txn (Some version))) None ≡ Some after → rows_step n rows (Flush changes (Some version)) ≡ rows) [
      | true ↦ λ test is. let up : version ≡ books.commit + 1 = versioned books.commit changes txn.base version test in commit_step changes version n rows (omega (arith, up, low))
      | false ↦ λ test is. absurd (none-some after is)
    ] refl e
step-low n books actor End txn after low e rows = refl
step-low n books actor Sync txn after low e rows = refl
step-low n books actor (Stop line reason from) txn after low e rows = refl

rows-along : (first : ℕ) (books last : Books) (journal : List JournalEntry) (rows : RowsValue) → Rises first books → all_booked (Some books) journal ≡ Some last → rows_at first rows journal ≡ rows
rows-along first books last [] rows old e = refl
rows-along first books last (entry ∷ more) rows old e =
    elim (booked books entry.actor entry.step) as (λ o. booked books entry.actor entry.step ≡ o → all_booked o more ≡ Some last → rows_at first (rows_step first rows entry.step) more ≡ rows) [
      | None ↦ λ is e. absurd (none-some last (sym (all_booked-none more) ∙ e))
      | Some here ↦ λ is e.
          let there = (not_stopped books here entry.actor entry.step is).1 in
          ap (λ r. rows_at first r more) (step-low first books entry.actor entry.step _ here old.low there rows)
          ∙ rows-along first here last more rows ((next first books entry.actor entry.step _ here there).rises old) e
    ] refl e

-- the rows at the first number are those at the start
pub start-rows : (start : Newest) (journal : List JournalEntry) (books : Books) → books_after start journal ≡ Some books → rows_at start.commit start.rows journal ≡ start.rows
start-rows start journal books is =
    rows-along start.commit ((opening start).books) books journal start.rows
    (record { low = omega arith; synced = omega arith; bases = λ q txn there. absurd (none-some txn (sym (get-empty nat_cmp q) ∙ there)) }) is
