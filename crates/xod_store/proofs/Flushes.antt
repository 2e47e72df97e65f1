-- What a flush leaves of what a store keeps.
use Rattle.std.proofs.Common.{◌≡◌, ◌≤◌, ℕ, ◌+◌, Bool, true, false, List, Some, None, refl, sym, ap, subst, ◌∙◌, arith}
use Rattle.std.specs.Prelude.{IsTrue, is_some}
use Rattle.std.specs.Ordering.{nat_cmp}
use Rattle.std.specs.FinMap.{FinMap, insert}
use Rattle.xod_base.specs.declared.answer.FlushAnswer.TheVariants as answer
use Rattle.xod_base.specs.declared.query.Mode.{Mode}
use Rattle.xod_base.specs.Causes.{Rose}
use Rattle.xod_base.specs.Views.{Trees}
use Rattle.xod_cache.specs.Kinds.{kinds_after}
use Rattle.xod_env.specs.declared.env.Env.{Env}
use Rattle.xod_env.specs.Envs.{IsSteady, env_trees, newest_stored}
use Rattle.xod_env.specs.Flushes.{KeepsCommit}
use Rattle.xod_estxn.specs.Txns.{IsOver, base_rows, txn_over}
use Rattle.xod_journal.specs.declared.change.RowChange.{RowChange}
use Rattle.xod_journal.specs.declared.journal.JournalEntry.{JournalEntry}
use Rattle.xod_journal.specs.declared.journal.Pinned.{Pinned}
use Rattle.xod_journal.specs.declared.journal.Step.TheVariants as step
use Rattle.xod_journal.specs.Books.{flush_answer, version_of}
use Rattle.xod_journal.specs.Changes.{all_applied}
use Rattle.xod_journal.specs.Seats.{books_after, entered, seat_of}
use Rattle.xod_journal.specs.Standing.{Newest, newest_after, rows_at}
use Rattle.xod_journal.specs.Txns.{FitsRows, OpenTxn, pinned_of}
use Rattle.xod_journal.proofs.CallerLemmas.{newest_after-append}
use Rattle.xod_log.specs.declared.log.Log.{Log}
use Rattle.xod_overlay.specs.Marks.{TouchMap, overlaid_trees}
use Rattle.xod_recover.specs.Images.{Stores}
use Rattle.xod_root.specs.Roots.{Roots}
use Rattle.xod_tables.specs.Reading.{rows_of}
use Rattle.xod_volume.specs.declared.volume.Lease as leases
use Rattle.xod_volume.specs.declared.volume.Volume as volumes
use Rattle.xod_volume.specs.Crash.{Passes}
use Rattle.xod_volume.specs.Files.{Files}
use Rattle.xod_store.specs.Images.{synced_in}
use Rattle.xod_store.specs.Parts.{IsTold, kept_in}
use Rattle.xod_store.specs.Views.{is_spent}
use Rattle.xod_store.proofs.Accounted.{accounted-entered}
use Rattle.xod_store.proofs.Booked.{Grown, keeps-committed, keeps-unchanged}
use Rattle.xod_store.proofs.Keeping.{Facts, some_of}
use Rattle.xod_store.proofs.Rises.{same-synced}
use Rattle.xod_store.proofs.Safe.{safe-entered}
use Rattle.xod_store.proofs.Told.{began-newest, overlaid-rows, told-committed, told-unchanged}
use Rattle.xod_store.proofs.Writing.{committed-facts, wrote}

-- ---- a flush that makes no commit

module _ {first : ℕ → Files → Type 0} {V Held : Type 0} {of_volume : volumes.Ghosts V Held} {of_lease : leases.Ghosts Held}
    {settled : Type 0} {start : Newest} {made since sessions : ℕ} {journal : List JournalEntry} {used room : ℕ} {txns : FinMap nat_cmp Pinned} {kinds : List (List ℕ)} where
  module _ (env next : Env V Held of_volume of_lease) where
    -- it is as it was
    pub with-same : next ≡ env → Facts (of_volume.tells env.volume) settled start made since sessions journal used room txns kinds (of_volume.faults env.volume) env.is_broken env.log env.commit (env_trees env.log.file (of_volume.files env.volume) env.roots) (of_volume.files env.volume) (of_volume.moment env.volume) first (of_volume.may_leave env.volume)
        → Facts (of_volume.tells next.volume) settled start made since sessions journal used room txns kinds (of_volume.faults next.volume) next.is_broken next.log next.commit (env_trees next.log.file (of_volume.files next.volume) next.roots) (of_volume.files next.volume) (of_volume.moment next.volume) first (of_volume.may_leave next.volume)
    with-same same = subst (λ (e : Env V Held of_volume of_lease). Facts (of_volume.tells e.volume) settled start made since sessions journal used room txns kinds (of_volume.faults e.volume) e.is_broken e.log e.commit (env_trees e.log.file (of_volume.files e.volume) e.roots) (of_volume.files e.volume) (of_volume.moment e.volume) first (of_volume.may_leave e.volume)) (sym same)

    -- it was refused
    pub with-refused : Facts (of_volume.tells env.volume) settled start made since sessions journal used room txns kinds (of_volume.faults env.volume) env.is_broken env.log env.commit (env_trees env.log.file (of_volume.files env.volume) env.roots) (of_volume.files env.volume) (of_volume.moment env.volume) first (of_volume.may_leave env.volume)
        → (env.is_broken ≡ true → next ≡ env) → KeepsCommit (of_volume.tells env.volume) env.commit next.commit env.roots next.roots (env_trees env.log.file (of_volume.files env.volume) env.roots) (env_trees next.log.file (of_volume.files next.volume) next.roots)
        → of_volume.tells next.volume ≡ of_volume.tells env.volume → of_volume.faults env.volume ≤ of_volume.faults next.volume → (env.is_broken ≡ false → next.is_broken ≡ true → Rose (of_volume.faults env.volume) (of_volume.faults next.volume)) → (IsTrue (is_spent env.log env.commit) → IsTrue (is_spent next.log next.commit))
        → (IsTrue (of_volume.tells env.volume) → env.is_broken ≡ false → IsSteady env.log (of_volume.files env.volume) (of_volume.may_leave env.volume (of_volume.moment env.volume)) → Passes (of_volume.moment env.volume) (of_volume.moment next.volume) (of_volume.may_leave env.volume) (of_volume.may_leave next.volume) (Stores (Some (newest_stored env.log.file (of_volume.files env.volume) env.roots env.commit))))
        → (IsTrue (of_volume.tells env.volume) → IsSteady env.log (of_volume.files env.volume) (of_volume.may_leave env.volume (of_volume.moment env.volume)) → next.is_broken ≡ false → IsSteady next.log (of_volume.files next.volume) (of_volume.may_leave next.volume (of_volume.moment next.volume)))
        → Facts (of_volume.tells next.volume) settled start made since sessions journal used room txns kinds (of_volume.faults next.volume) next.is_broken next.log next.commit (env_trees next.log.file (of_volume.files next.volume) next.roots) (of_volume.files next.volume) (of_volume.moment next.volume) first (of_volume.may_leave next.volume)
    with-refused old broken keeps tells_same grows breaks lasts crash steady =
        elim (env.is_broken) as (λ b. env.is_broken ≡ b → Facts (of_volume.tells next.volume) settled start made since sessions journal used room txns kinds (of_volume.faults next.volume) next.is_broken next.log next.commit (env_trees next.log.file (of_volume.files next.volume) next.roots) (of_volume.files next.volume) (of_volume.moment next.volume) first (of_volume.may_leave next.volume)) [
          | true ↦ λ is. with-same (broken is) old
          | false ↦ λ is. wrote env.roots next.roots next.commit old is tells_same grows (breaks is) lasts (λ told. crash told is) steady keeps refl refl (omega arith)
        ] refl

-- ---- an entry without a version

module _ {tells : Bool} {settled : Type 0} {start : Newest} {made since sessions : ℕ} {journal : List JournalEntry} {used room : ℕ} {txns : FinMap nat_cmp Pinned} {kinds : List (List ℕ)} {faults : ℕ} {is_broken : Bool} {log : Log} {commit : ℕ} {trees : Trees} {files : Files} {now : ℕ} {first images : ℕ → Files → Type 0}
    (old : Facts tells settled start made since sessions journal used room txns kinds faults is_broken log commit trees files now first images)
    (actor : ℕ) (held : OpenTxn) (seat : seat_of start journal actor ≡ Some (false, Some (pinned_of held))) (fits : IsTrue tells → FitsRows (rows_at held.base start.rows journal) held) where
  pub unchanged-facts : version_of (flush_answer commit held.base held.own) ≡ None → {grown : List JournalEntry} {longer wider : ℕ} → Grown journal sessions actor (step.Flush held.own None) grown longer wider
      → Facts tells settled start made since sessions grown longer wider txns kinds faults is_broken log commit trees files now first images
  unchanged-facts answers {grown} {longer} {wider} g =
      let st = step.Flush held.own None in
      let booked = keeps-unchanged start journal commit txns sessions used room old.booked actor (Some (pinned_of held)) seat grown longer wider held refl answers g in
      let there = some_of kept_in (books_after start grown) _ booked.books in
      record {
        accounted = accounted-entered journal made faults is_broken (is_spent log commit) old.accounted grown actor st refl g.entry;
        booked = booked;
        told = λ told. told-unchanged start journal trees kinds (old.told told) actor held seat (fits told) grown trees kinds g.entry there refl refl;
        safe = λ told calm. safe-entered start journal since now is_broken log files first images (old.safe told calm) actor st grown g.entry (λ n. refl) (λ n rows. refl)
            (ap (synced_in start) g.entry ∙ same-synced start journal actor st refl (ap (λ j. is_some (books_after start j)) (sym g.entry) ∙ there));
      }

-- ---- the rows of a transaction at the newest commit

module _ (start : Newest) (journal : List JournalEntry) (newest : Trees) (kinds : List (List ℕ)) (told : IsTold start journal newest kinds)
    (actor : ℕ) (mode : Mode) (base : ℕ) (trees : Trees) (own : List RowChange) (seat : seat_of start journal actor ≡ Some (false, Some (record { mode = mode; base = base })))
    (fits : FitsRows (rows_at base start.rows journal) (txn_over mode base trees own)) (here : base ≡ (newest_after start journal).commit) where
  -- it began with the newest ones
  began : base_rows trees ≡ (newest_after start journal).rows
  began = began-newest start journal newest kinds told actor (txn_over mode base trees own) seat fits here

  -- and the newest trees with its touched keys are the tables of them with its changes
  pub overlaid-newest : (touches : ℕ → TouchMap) → IsOver trees own touches → rows_of (overlaid_trees touches newest) ≡ Some (all_applied ((newest_after start journal).rows) own)
  overlaid-newest touches over = overlaid-rows touches trees newest ((newest_after start journal).rows) own over began told.tables

  -- which are the newest ones after its commit
  pub rows-committed : (version : ℕ) (grown : List JournalEntry) → grown ≡ entered journal actor (step.Flush own (Some version)) → (newest_after start grown).rows ≡ all_applied (base_rows trees) own
  rows-committed version grown entry = ap (λ j. (newest_after start j).rows) entry ∙ ap (λ (n : Newest). n.rows) (newest_after-append start journal _) ∙ ap (λ r. all_applied r own) (sym began)

-- ---- a commit

module _ {settled : Type 0} {start : Newest} {made since sessions : ℕ} {journal : List JournalEntry} {used room : ℕ} {txns : FinMap nat_cmp Pinned} {kinds : List (List ℕ)}
    {tells tells2 : Bool} {faults faults2 : ℕ} {was_broken is_broken : Bool} {log log2 : Log} (roots roots2 : Roots) {commit : ℕ} (commit2 : ℕ) {files files2 : Files} {before now : ℕ} {first past images : ℕ → Files → Type 0}
    (old : Facts tells settled start made since sessions journal used room txns kinds faults was_broken log commit (env_trees log.file files roots) files before first past)
    (whole : was_broken ≡ false) (tells_same : tells2 ≡ tells) (grows : faults ≤ faults2) (breaks : IsTrue is_broken → Rose faults faults2) (lasts : IsTrue (is_spent log commit) → IsTrue (is_spent log2 commit2))
    (crash : IsTrue tells → IsSteady log files (past before) → Passes before now past images (Stores (Some (newest_stored log.file files roots commit))))
    (steady : IsTrue tells → IsSteady log files (past before) → is_broken ≡ false → IsSteady log2 files2 (images now))
    (actor : ℕ) (mode : Mode) (base : ℕ) (trees : Trees) (own : List RowChange) (seat : seat_of start journal actor ≡ Some (false, Some (record { mode = mode; base = base })))
    (fits : IsTrue tells → FitsRows (rows_at base start.rows journal) (txn_over mode base trees own)) (here : base ≡ commit) where
  pub made-facts : (touches : ℕ → TouchMap) → (IsTrue tells → IsOver trees own touches) → (IsTrue tells → (tree : ℕ) → env_trees log2.file files2 roots2 tree ≡ overlaid_trees touches (env_trees log.file files roots) tree)
      → commit2 ≡ commit + 1 → flush_answer commit base own ≡ answer.Committed commit2 None → {txns2 : FinMap nat_cmp Pinned} → txns2 ≡ insert txns actor (record { mode = mode; base = commit2 })
      → {kinds2 : List (List ℕ)} → kinds2 ≡ kinds_after kinds own → {grown : List JournalEntry} {longer wider : ℕ} → Grown journal sessions actor (step.Flush own (Some commit2)) grown longer wider
      → Facts tells2 settled start made since sessions grown longer wider txns2 kinds2 faults2 is_broken log2 commit2 (env_trees log2.file files2 roots2) files2 now first images
  made-facts touches over written next answers {txns2} put {kinds2} named {grown} {longer} {wider} g =
      let held : OpenTxn = txn_over mode base trees own in
      let booked = keeps-committed start journal commit txns sessions used room old.booked actor (Some (pinned_of held)) seat grown longer wider held commit2 txns2 refl (ap version_of answers) put g in
      let there = some_of kept_in (books_after start grown) _ booked.books in
      let newest = here ∙ sym old.booked.newest in
      committed-facts roots roots2 commit2 old whole tells_same grows breaks lasts crash steady actor own next g.entry booked
      (λ tell. let told = old.told tell in
      told-committed start journal (env_trees log.file files roots) kinds told actor held seat (fits tell) commit2 grown (env_trees log2.file files2 roots2) kinds2 newest g.entry there
      (ap rows_of (λ i tree. written tell tree i) ∙ overlaid-newest start journal (env_trees log.file files roots) kinds told actor mode base trees own seat (fits tell) newest touches (over tell)) named)
