-- What a call of the environment that writes leaves of what a store keeps.
use Rattle.std.proofs.Common.{◌≡◌, ◌≤◌, ℕ, ◌+◌, Bool, true, false, List, Some, inr, refl, sym, ap, ◌∙◌, arith, nat_eq, cond}
use Rattle.std.specs.Prelude.{◌||◌, IsTrue, is_some}
use Rattle.std.specs.Ordering.{nat_cmp}
use Rattle.std.specs.FinMap.{FinMap}
use mathlib.Core.Path.{transport}
use Rattle.xod_base.specs.Causes.{Rose}
use Rattle.xod_env.specs.Envs.{IsSteady, env_trees, newest_stored}
use Rattle.xod_env.specs.Flushes.{KeepsCommit}
use Rattle.xod_journal.specs.declared.change.RowChange.{RowChange}
use Rattle.xod_journal.specs.declared.journal.JournalEntry.{JournalEntry}
use Rattle.xod_journal.specs.declared.journal.Pinned.{Pinned}
use Rattle.xod_journal.specs.declared.journal.Step.TheVariants as step
use Rattle.xod_journal.specs.Seats.{books_after, entered}
use Rattle.xod_journal.specs.Standing.{Newest}
use Rattle.xod_log.specs.declared.log.Log.{Log}
use Rattle.xod_log.specs.Standing.{is_last, sealed_log}
use Rattle.xod_recover.specs.Images.{AllStore, Stores}
use Rattle.xod_root.specs.Roots.{Roots}
use Rattle.xod_volume.specs.Crash.{Passes}
use Rattle.xod_volume.specs.Files.{Files}
use Rattle.xod_store.specs.Images.{synced_in}
use Rattle.xod_store.specs.Parts.{IsBooked, IsSafe, IsTold, kept_in}
use Rattle.xod_store.specs.Views.{is_spent}
use Rattle.xod_store.proofs.Accounted.{accounted-entered, accounted-later}
use Rattle.xod_store.proofs.Booked.{keeps-wider}
use Rattle.xod_store.proofs.Keeping.{Facts, some_of}
use Rattle.xod_store.proofs.Newest.{at-newest, synced-low}
use Rattle.xod_store.proofs.Rises.{same-synced}
use Rattle.xod_store.proofs.Safe.{safe-committed, safe-passes, safe-synced}
use Rattle.xod_store.proofs.Told.{told-quiet, told-same}

-- ---- logs

pub sealed-file : (log : Log) → (sealed_log log).file ≡ log.file
sealed-file log = elim (log.is_sealed) as (λ b. (cond b log (record log { marks = log.marks + 1; is_sealed = true })).file ≡ log.file) [ true ↦ refl | false ↦ refl ]

-- a last number stands where the file and the commit do not fall
pub spent-stays : (log log2 : Log) (commit commit2 : ℕ) → (IsTrue (is_last log) → IsTrue (is_last log2)) → commit2 ≡ commit → IsTrue (is_spent log commit) → IsTrue (is_spent log2 commit2)
spent-stays log log2 commit commit2 lasts same is =
    split (is_last log) refl (is_last log2) refl (nat_eq commit 18446744073709551615) refl is
  where
    split : (b : Bool) → is_last log ≡ b → (d : Bool) → is_last log2 ≡ d → (e : Bool) → nat_eq commit 18446744073709551615 ≡ e → (b || e) ≡ true → is_spent log2 commit2 ≡ true
    split true is d there e at some = ap (λ b. b || nat_eq commit2 18446744073709551615) (lasts is)
    split false is true there e at some = ap (λ b. b || nat_eq commit2 18446744073709551615) there
    split false is false there e at some = (λ i. there i || nat_eq (same i) 18446744073709551615) ∙ at ∙ some

module _ {settled : Type 0} {start : Newest} {made since sessions : ℕ} {journal : List JournalEntry} {used room : ℕ} {txns : FinMap nat_cmp Pinned} {kinds : List (List ℕ)}
    {tells tells2 : Bool} {faults faults2 : ℕ} {was_broken is_broken : Bool} {log log2 : Log} (roots roots2 : Roots) {commit : ℕ} (commit2 : ℕ) {files files2 : Files} {before now : ℕ} {first past images : ℕ → Files → Type 0}
    (old : Facts tells settled start made since sessions journal used room txns kinds faults was_broken log commit (env_trees log.file files roots) files before first past)
    (whole : was_broken ≡ false) (tells_same : tells2 ≡ tells) (grows : faults ≤ faults2) (breaks : IsTrue is_broken → Rose faults faults2) (lasts : IsTrue (is_spent log commit) → IsTrue (is_spent log2 commit2))
    (crash : IsTrue tells → IsSteady log files (past before) → Passes before now past images (Stores (Some (newest_stored log.file files roots commit))))
    (steady : IsTrue tells → IsSteady log files (past before) → is_broken ≡ false → IsSteady log2 files2 (images now)) where
  tell : IsTrue tells2 → IsTrue tells
  tell told = sym tells_same ∙ told

  -- of images, with the journal as it was
  passed : {journal2 : List JournalEntry} → journal2 ≡ journal → IsTrue tells2 → settled → IsSafe start journal2 since now is_broken log2 files2 first images
  passed same told calm =
      let safe = old.safe (tell told) calm in
      let firm = safe.steady whole in
      safe-passes start journal since before was_broken log files first past safe _ (newest_stored log.file files roots commit) now is_broken log2 files2 images same (crash (tell told) firm)
      (at-newest start journal commit txns sessions used room old.booked _ kinds (old.told (tell told))) (synced-low start journal commit txns sessions used room old.booked) (steady (tell told) firm)

  -- one that keeps the commit
  pub wrote : KeepsCommit tells commit commit2 roots roots2 (env_trees log.file files roots) (env_trees log2.file files2 roots2)
      → {journal2 : List JournalEntry} {used2 room2 : ℕ} → journal2 ≡ journal → used2 ≡ used → room ≤ room2
      → Facts tells2 settled start made since sessions journal2 used2 room2 txns kinds faults2 is_broken log2 commit2 (env_trees log2.file files2 roots2) files2 now first images
  wrote keeps {journal2} {used2} {room2} same len wider = record {
    accounted = accounted-later journal made faults was_broken (is_spent log commit) old.accounted _ faults2 is_broken (is_spent log2 commit2) same grows (λ is. inr (breaks is)) lasts;
    booked = transport (λ i. IsBooked start journal2 (sym keeps.commit i) txns sessions used2 room2) (keeps-wider start journal commit txns sessions used room old.booked _ _ _ same len wider);
    told = λ told. told-same start journal _ kinds (old.told (tell told)) _ _ _ same (λ i tree. keeps.trees (tell told) tree i) refl;
    safe = passed same;
  }

  -- one that makes a commit, with its entry
  pub committed-facts : (actor : ℕ) (own : List RowChange) → commit2 ≡ commit + 1 → {grown : List JournalEntry} {longer wider : ℕ} {txns2 : FinMap nat_cmp Pinned} {kinds2 : List (List ℕ)}
      → grown ≡ entered journal actor (step.Flush own (Some commit2)) → IsBooked start grown commit2 txns2 sessions longer wider → (IsTrue tells → IsTold start grown (env_trees log2.file files2 roots2) kinds2)
      → Facts tells2 settled start made since sessions grown longer wider txns2 kinds2 faults2 is_broken log2 commit2 (env_trees log2.file files2 roots2) files2 now first images
  committed-facts actor own next {grown} entry booked knows =
      let there = some_of kept_in (books_after start grown) _ booked.books in
      let newest = old.booked.newest in
      record {
        accounted = accounted-entered journal made faults2 is_broken (is_spent log2 commit2)
            (accounted-later journal made faults was_broken (is_spent log commit) old.accounted journal faults2 is_broken (is_spent log2 commit2) refl grows (λ is. inr (breaks is)) lasts) grown actor (step.Flush own (Some commit2)) refl entry;
        booked = booked;
        told = λ told. knows (tell told);
        safe = λ told calm. safe-committed start journal since now is_broken log2 files2 first images (passed refl told calm) actor own commit2 grown entry (omega arith)
            (ap (synced_in start) entry ∙ same-synced start journal actor (step.Flush own (Some commit2)) refl (ap (λ j. is_some (books_after start j)) (sym entry) ∙ there));
      }

  -- a sync, with its entry
  pub synced-facts : KeepsCommit tells commit commit2 roots roots2 (env_trees log.file files roots) (env_trees log2.file files2 roots2) → (IsTrue tells → IsSteady log files (past before) → AllStore (Some (newest_stored log.file files roots commit)) (images now))
      → (actor : ℕ) {grown : List JournalEntry} {longer wider : ℕ} → grown ≡ entered journal actor step.Sync → IsBooked start grown commit txns sessions longer wider
      → Facts tells2 settled start made since sessions grown longer wider txns kinds faults2 is_broken log2 commit2 (env_trees log2.file files2 roots2) files2 now first images
  synced-facts keeps durable actor {grown} {longer} {wider} entry booked =
      let there = some_of kept_in (books_after start grown) _ booked.books in
      record {
        accounted = accounted-entered journal made faults2 is_broken (is_spent log2 commit2)
            (accounted-later journal made faults was_broken (is_spent log commit) old.accounted journal faults2 is_broken (is_spent log2 commit2) refl grows (λ is. inr (breaks is)) lasts) grown actor step.Sync refl entry;
        booked = transport (λ i. IsBooked start grown (sym keeps.commit i) txns sessions longer wider) booked;
        told = λ told. told-quiet start journal _ kinds (old.told (tell told)) actor step.Sync grown _ kinds (λ s. refl) (λ n. refl) entry there (λ i tree. keeps.trees (tell told) tree i) refl;
        safe = λ told calm. safe-synced start journal since now is_broken log2 files2 first images (passed refl told calm) actor (newest_stored log.file files roots commit) grown entry
            (durable (tell told) ((old.safe (tell told) calm).steady whole)) (synced-low start grown commit txns sessions _ _ booked);
      }
