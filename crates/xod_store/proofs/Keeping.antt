-- What a store keeps, all in one, and what calls of its environment and entries leave of it.
use Rattle.std.proofs.Common.{◌≡◌, ◌≤◌, ℕ, Bool, true, false, List, Option, Some, None, inl, refl, sym, ap, ◌∙◌}
use Rattle.std.specs.Prelude.{IsTrue, is_some, option_map}
use Rattle.std.specs.Ordering.{nat_cmp}
use Rattle.std.specs.FinMap.{FinMap}
use mathlib.Core.Path.{transport}
use base.Fml.{GName}
use Rattle.xod_base.specs.Rows.{RowsValue}
use Rattle.xod_base.specs.Views.{Trees}
use Rattle.xod_env.specs.EnvCalls.{KeepsFiles, KeepsNewest}
use Rattle.xod_env.specs.Envs.{IsSteady, env_trees}
use Rattle.xod_journal.specs.declared.journal.JournalEntry.{JournalEntry}
use Rattle.xod_journal.specs.declared.journal.Pinned.{Pinned}
use Rattle.xod_journal.specs.declared.journal.Step.{Step}
use Rattle.xod_journal.specs.Seats.{books_after, entered}
use Rattle.xod_journal.specs.Standing.{Newest, Standing, changes_fit, newest_step, rows_step}
use Rattle.xod_log.specs.declared.log.Log.{Log}
use Rattle.xod_root.specs.Roots.{Roots}
use Rattle.xod_volume.specs.Files.{Files}
use Rattle.xod_store.specs.Images.{synced_in}
use Rattle.xod_store.specs.Parts.{IsAccounted, IsBooked, IsSafe, IsTold, is_stop, kept_in}
use Rattle.xod_store.specs.Views.{is_spent}
use Rattle.xod_store.proofs.Accounted.{accounted-entered, accounted-later}
use Rattle.xod_store.proofs.Booked.{keeps-wider}
use Rattle.xod_store.proofs.Rises.{is_sync, same-synced}
use Rattle.xod_store.proofs.Safe.{safe-entered, safe-rests}
use Rattle.xod_store.proofs.Told.{told-quiet, told-same}

pub record Facts (tells : Bool) (settled : Type 0) (start : Newest) (made since sessions : ℕ) (journal : List JournalEntry) (used room : ℕ) (txns : FinMap nat_cmp Pinned) (kinds : List (List ℕ)) (faults : ℕ) (is_broken : Bool) (log : Log) (commit : ℕ) (trees : Trees) (files : Files) (now : ℕ) (first images : ℕ → Files → Type 0) : Type 0 where
  pub accounted : IsAccounted journal made faults is_broken (is_spent log commit)
  pub booked : IsBooked start journal commit txns sessions used room
  pub told : IsTrue tells → IsTold start journal trees kinds
  pub safe : IsTrue tells → settled → IsSafe start journal since now is_broken log files first images

pub some_of : {A B : Type 0} (f : A → B) (o : Option A) (y : B) → option_map f o ≡ Some y → is_some o ≡ true
some_of f None y e = ap is_some e
some_of f (Some x) y e = refl

module _ {settled : Type 0} {start : Newest} {made since sessions : ℕ} {journal : List JournalEntry} {used room : ℕ} {txns : FinMap nat_cmp Pinned} {kinds : List (List ℕ)} {first : ℕ → Files → Type 0} where
  -- ---- a call of the environment that writes nothing

  module _ {V : Type 0} {tells : V → Bool} {files : V → Files} {moment : V → ℕ} {may_leave : V → ℕ → Files → Type 0} {refs : V → List GName} {faults : V → ℕ} {before now : V}
      (keeps : KeepsFiles tells files moment may_leave refs faults before now) {roots roots2 : Roots} {commit commit2 count count2 : ℕ} (newest : KeepsNewest roots roots2 commit commit2 count count2) {log log2 : Log} (log_is : log2 ≡ log) {was_broken is_broken : Bool} (broken : is_broken ≡ was_broken)
      (steady : IsTrue (tells before) → IsSteady log (files before) (may_leave before (moment before)) → IsSteady log2 (files now) (may_leave now (moment now))) where
    pub rested : Facts (tells before) settled start made since sessions journal used room txns kinds (faults before) was_broken log commit (env_trees log.file (files before) roots) (files before) (moment before) first (may_leave before)
        → {journal2 : List JournalEntry} {used2 room2 : ℕ} → journal2 ≡ journal → used2 ≡ used → room ≤ room2
        → Facts (tells now) settled start made since sessions journal2 used2 room2 txns kinds (faults now) is_broken log2 commit2 (env_trees log2.file (files now) roots2) (files now) (moment now) first (may_leave now)
    rested old {journal2} {used2} {room2} same len wider =
        let tell : IsTrue (tells now) → IsTrue (tells before) = λ told. sym keeps.tells_same ∙ told in
        let spent : is_spent log2 commit2 ≡ is_spent log commit = λ i. is_spent (log_is i) (newest.commit i) in
        record {
          accounted = accounted-later journal made (faults before) was_broken (is_spent log commit) old.accounted _ (faults now) is_broken (is_spent log2 commit2) same keeps.never_falls (λ is. inl (sym broken ∙ is)) (λ is. spent ∙ is);
          booked = transport (λ i. IsBooked start journal2 (sym newest.commit i) txns sessions used2 room2) (keeps-wider start journal commit txns sessions used room old.booked _ _ _ same len wider);
          told = λ told. told-same start journal _ kinds (old.told (tell told)) _ _ _ same (λ i. env_trees ((log_is i).file) (keeps.same (tell told) i) (newest.roots i)) refl;
          safe = λ told calm. safe-rests start journal since (moment before) was_broken log (files before) first (may_leave before) (old.safe (tell told) calm) _ (moment now) is_broken log2 (files now) (may_leave now) same (keeps.rests (tell told)) broken (steady (tell told));
        }

  -- ---- an entry

  module _ {tells : Bool} {faults : ℕ} {is_broken : Bool} {log : Log} {commit : ℕ} {trees : Trees} {files : Files} {now : ℕ} {images : ℕ → Files → Type 0}
      (old : Facts tells settled start made since sessions journal used room txns kinds faults is_broken log commit trees files now first images) where
    -- one that is no stop, and neither a flush nor a sync
    pub entered-facts : (actor : ℕ) (st : Step) → is_stop st ≡ false → is_sync st ≡ false → ((s : Standing) → changes_fit s actor st ≡ true) → ((n : Newest) → newest_step n st ≡ n) → ((n : ℕ) (rows : RowsValue) → rows_step n rows st ≡ rows)
        → {grown : List JournalEntry} {longer wider : ℕ} {txns2 : FinMap nat_cmp Pinned} → grown ≡ entered journal actor st → IsBooked start grown commit txns2 sessions longer wider
        → Facts tells settled start made since sessions grown longer wider txns2 kinds faults is_broken log commit trees files now first images
    entered-facts actor st quiet unsynced fit stays same {grown} entry booked =
        let there = some_of kept_in (books_after start grown) _ booked.books in
        record {
          accounted = accounted-entered journal made faults is_broken (is_spent log commit) old.accounted grown actor st quiet entry;
          booked = booked;
          told = λ told. told-quiet start journal trees kinds (old.told told) actor st grown trees kinds fit stays entry there refl refl;
          safe = λ told calm. safe-entered start journal since now is_broken log files first images (old.safe told calm) actor st grown entry stays same
              (ap (synced_in start) entry ∙ same-synced start journal actor st unsynced (ap (λ j. is_some (books_after start j)) (sym entry) ∙ there));
        }

    -- a stop, of which the count and the books are known
    pub stopped-facts : (actor : ℕ) (st : Step) → is_sync st ≡ false → ((s : Standing) → changes_fit s actor st ≡ true) → ((n : Newest) → newest_step n st ≡ n) → ((n : ℕ) (rows : RowsValue) → rows_step n rows st ≡ rows)
        → {grown : List JournalEntry} {longer wider : ℕ} {txns2 : FinMap nat_cmp Pinned} → grown ≡ entered journal actor st → IsBooked start grown commit txns2 sessions longer wider → IsAccounted grown made faults is_broken (is_spent log commit)
        → Facts tells settled start made since sessions grown longer wider txns2 kinds faults is_broken log commit trees files now first images
    stopped-facts actor st unsynced fit stays same {grown} entry booked accounted =
        let there = some_of kept_in (books_after start grown) _ booked.books in
        record {
          accounted = accounted;
          booked = booked;
          told = λ told. told-quiet start journal trees kinds (old.told told) actor st grown trees kinds fit stays entry there refl refl;
          safe = λ told calm. safe-entered start journal since now is_broken log files first images (old.safe told calm) actor st grown entry stays same
              (ap (synced_in start) entry ∙ same-synced start journal actor st unsynced (ap (λ j. is_some (books_after start j)) (sym entry) ∙ there));
        }
