-- What a sync of the environment leaves of what a store keeps.
use Rattle.std.proofs.Common.{◌≡◌, ◌≤◌, ℕ, Bool, true, false, cond, List, Some, refl, sym, ap, subst, ◌∙◌, nat_eq}
use Rattle.std.specs.Prelude.{◌↔◌, IsTrue, IsErrOf, Result, Ok, is_ok}
use Rattle.std.specs.Ordering.{nat_cmp}
use Rattle.std.specs.FinMap.{FinMap}
use Rattle.std.proofs.lemmas.Bool.{false≢true}
use base.Fml.{GName}
use Rattle.xod_base.specs.Causes.{Rose}
use Rattle.xod_base.specs.Views.{Trees}
use Rattle.xod_env.specs.declared.error.EnvError.{EnvError}
use Rattle.xod_env.specs.declared.error.EnvError.TheVariants.{Device}
use Rattle.xod_env.specs.EnvCalls.{KeepsNewest, Refuses}
use Rattle.xod_env.specs.Envs.{IsSteady, env_trees, newest_stored}
use Rattle.xod_env.specs.Flushes.{KeepsCommit}
use Rattle.xod_journal.specs.declared.journal.JournalEntry.{JournalEntry}
use Rattle.xod_journal.specs.declared.journal.Pinned.{Pinned}
use Rattle.xod_journal.specs.declared.journal.Step.TheVariants as step
use Rattle.xod_journal.specs.Seats.{entered}
use Rattle.xod_journal.specs.Standing.{Newest}
use Rattle.xod_log.specs.declared.log.Log.{Log}
use Rattle.xod_log.specs.Standing.{last_file, sealed_log}
use Rattle.xod_recover.specs.Images.{AllStore, Stores}
use Rattle.xod_root.specs.Roots.{Roots}
use Rattle.xod_volume.specs.Crash.{Passes}
use Rattle.xod_volume.specs.Files.{Files}
use Rattle.xod_volume.specs.Leases.{Stays}
use Rattle.xod_store.specs.Parts.{IsAccounted, IsBooked, IsSafe, IsTold}
use Rattle.xod_store.specs.Views.{is_spent}
use Rattle.xod_store.proofs.Booked.{keeps-wider}
use Rattle.xod_store.proofs.Keeping.{Facts}
use Rattle.xod_store.proofs.Writing.{sealed-file, spent-stays, synced-facts, wrote}

-- where it was broken it is as it was; else it is as the call leaves it
pub unless-broken : {E : Type 0} {was_broken : Bool} {before now : E} → (was_broken ≡ true → now ≡ before) → (facts : E → Type 0) → facts before → (was_broken ≡ false → facts now) → facts now
unless-broken {was_broken = was_broken} {before = before} {now = now} same facts old call =
    elim was_broken as (λ b. was_broken ≡ b → facts now) [
      | true ↦ λ is. subst facts (sym (same is)) old
      | false ↦ λ is. call is
    ] refl

-- where it answered, it was not broken
pub whole-ok : {A : Type 0} {was_broken : Bool} {before now : ℕ} {answer : A} → Refuses was_broken before now (Ok answer) → was_broken ≡ false
whole-ok {was_broken = was_broken} refusals =
    elim was_broken as (λ b. was_broken ≡ b → b ≡ false) [
      | true ↦ λ is. let no = refusals.broken_exactly.1 is in absurd (cc)
      | false ↦ λ is. refl
    ] refl

-- more room for the same journal
pub widened : {tells : Bool} {settled : Type 0} {start : Newest} {made since sessions : ℕ} {journal : List JournalEntry} {used room : ℕ} {txns : FinMap nat_cmp Pinned} {kinds : List (List ℕ)} {faults : ℕ} {is_broken : Bool} {log : Log} {commit : ℕ} {trees : Trees} {files : Files} {now : ℕ} {first images : ℕ → Files → Type 0}
    → Facts tells settled start made since sessions journal used room txns kinds faults is_broken log commit trees files now first images
    → {wider : List JournalEntry} {used2 room2 : ℕ} → wider ≡ journal → used2 ≡ used → room ≤ room2
    → Facts tells settled start made since sessions wider used2 room2 txns kinds faults is_broken log commit trees files now first images
widened {start = start} {made = made} {since = since} {sessions = sessions} {journal = journal} {used = used} {room = room} {txns = txns} {kinds = kinds} {faults = faults} {is_broken = is_broken} {log = log} {commit = commit} {trees = trees} {files = files} {now = now} {first = first} {images = images} old same len grows = record {
  accounted = subst (λ j. IsAccounted j made faults is_broken (is_spent log commit)) (sym same) old.accounted;
  booked = keeps-wider start journal commit txns sessions used room old.booked _ _ _ same len grows;
  told = λ told. subst (λ j. IsTold start j trees kinds) (sym same) (old.told told);
  safe = λ told calm. subst (λ j. IsSafe start j since now is_broken log files first images) (sym same) (old.safe told calm);
}

-- ---- the log

module _ (log log2 : Log) (made : Bool) (log_is : log2 ≡ cond made (sealed_log log) log) where
  pub same-file : log2.file ≡ log.file
  same-file = ap (λ (l : Log). l.file) log_is ∙ elim made as (λ b. (cond b (sealed_log log) log).file ≡ log.file) [ true ↦ sealed-file log | false ↦ refl ]

  pub lasts-on : (commit commit2 : ℕ) → commit2 ≡ commit → IsTrue (is_spent log commit) → IsTrue (is_spent log2 commit2)
  lasts-on commit commit2 same = spent-stays log log2 commit commit2 (λ is. ap (λ f. nat_eq f last_file) same-file ∙ is) same

  pub keeps-commit : (told : Bool) (files files2 : Files) {roots roots2 : Roots} {commit commit2 count count2 : ℕ} → KeepsNewest roots roots2 commit commit2 count count2
      → (IsTrue told → (tops : Roots) → env_trees log.file files2 tops ≡ env_trees log.file files tops)
      → KeepsCommit told commit commit2 roots roots2 (env_trees log.file files roots) (env_trees log2.file files2 roots2)
  keeps-commit told files files2 {roots} newest trees = record {
    commit = newest.commit;
    roots = newest.roots;
    trees = λ told tree. (λ i. env_trees (same-file i) files2 (newest.roots i) tree) ∙ ap (λ (t : Trees). t tree) (trees told roots);
  }

-- ---- the sync

module _ {first : ℕ → Files → Type 0} {V : Type 0} (tells : V → Bool) (files : V → Files) (moment : V → ℕ) (may_leave : V → ℕ → Files → Type 0) (leases : V → List (List ℕ)) (refs : V → List GName) (faults : V → ℕ) (before now : V)
    {A : Type 0} {result : Result A EnvError} {log log2 : Log} {roots roots2 : Roots} {commit commit2 count count2 : ℕ} {was_broken is_broken : Bool}
    (refusals : Refuses was_broken (faults before) (faults now) result) (breaks : was_broken ≡ false → (is_broken ≡ true) ↔ IsErrOf result Device)
    (log_is : log2 ≡ cond (is_ok result) (sealed_log log) log) (newest : KeepsNewest roots roots2 commit commit2 count count2)
    (trees : IsTrue (tells before) → (tops : Roots) → env_trees log.file (files now) tops ≡ env_trees log.file (files before) tops)
    (stays : Stays (tells before) (tells now) (leases before) (leases now) (refs before) (refs now) (faults before) (faults now))
    (crash : IsTrue (tells before) → was_broken ≡ false → IsSteady log (files before) (may_leave before (moment before))
    → Passes (moment before) (moment now) (may_leave before) (may_leave now) (Stores (Some (newest_stored log.file (files before) roots commit))))
    (steady : IsTrue (tells before) → IsSteady log (files before) (may_leave before (moment before)) → ¬ (IsErrOf result Device) → IsSteady log2 (files now) (may_leave now (moment now)))
    {settled : Type 0} {start : Newest} {made since sessions : ℕ} {journal : List JournalEntry} {used room : ℕ} {txns : FinMap nat_cmp Pinned} {kinds : List (List ℕ)}
    (old : Facts (tells before) settled start made since sessions journal used room txns kinds (faults before) was_broken log commit (env_trees log.file (files before) roots) (files before) (moment before) first (may_leave before))
    (whole : was_broken ≡ false) where
  rose : IsTrue is_broken → Rose (faults before) (faults now)
  rose is = refusals.device ((breaks whole).0 is)

  firm : IsTrue (tells before) → IsSteady log (files before) (may_leave before (moment before)) → is_broken ≡ false → IsSteady log2 (files now) (may_leave now (moment now))
  firm told was unbroken = steady told was (λ failed. absurd (false≢true (sym unbroken ∙ (breaks whole).1 failed)))

  -- one that was refused
  pub sync-refused : {journal2 : List JournalEntry} {used2 room2 : ℕ} → journal2 ≡ journal → used2 ≡ used → room ≤ room2
      → Facts (tells now) settled start made since sessions journal2 used2 room2 txns kinds (faults now) is_broken log2 commit2 (env_trees log2.file (files now) roots2) (files now) (moment now) first (may_leave now)
  sync-refused =
      wrote roots roots2 commit2 old whole stays.tells stays.faults rose (lasts-on log log2 (is_ok result) log_is commit commit2 newest.commit) (λ told. crash told whole) firm (keeps-commit log log2 (is_ok result) log_is (tells before) (files before) (files now) newest trees)

  -- one that was made, with its entry
  pub sync-made : (IsTrue (tells before) → IsSteady log (files before) (may_leave before (moment before)) → AllStore (Some (newest_stored log.file (files before) roots commit)) (may_leave now (moment now)))
      → (actor : ℕ) {grown : List JournalEntry} {longer wider : ℕ} → grown ≡ entered journal actor step.Sync → IsBooked start grown commit txns sessions longer wider
      → Facts (tells now) settled start made since sessions grown longer wider txns kinds (faults now) is_broken log2 commit2 (env_trees log2.file (files now) roots2) (files now) (moment now) first (may_leave now)
  sync-made =
      synced-facts roots roots2 commit2 old whole stays.tells stays.faults rose (lasts-on log log2 (is_ok result) log_is commit commit2 newest.commit) (λ told. crash told whole) firm (keeps-commit log log2 (is_ok result) log_is (tells before) (files before) (files now) newest trees)
