-- What a call and an entry leave of what a crash may leave of a store.
use Rattle.std.proofs.Common.{◌≡◌, ◌≤◌, ◌<◌, ℕ, Bool, true, false, cond, List, [], Some, inl, inr, refl, sym, ap, subst, ◌∙◌, arith, leb-true}
use Rattle.std.specs.Prelude.{is_some, nat_le, option_map, option_and_then, unwrap_or}
use Rattle.xod_base.specs.Rows.{RowsValue}
use Rattle.xod_env.specs.Envs.{IsSteady}
use Rattle.xod_journal.specs.declared.change.RowChange.{RowChange}
use Rattle.xod_journal.specs.declared.journal.JournalEntry.{JournalEntry}
use Rattle.xod_journal.specs.declared.journal.Step.{Step}
use Rattle.xod_journal.specs.declared.journal.Step.TheVariants as step
use Rattle.xod_journal.specs.Changes.{all_applied}
use Rattle.xod_journal.specs.Seats.{entered}
use Rattle.xod_journal.specs.Standing.{Newest, newest_after, newest_step, rows_at, rows_step}
use Rattle.xod_journal.proofs.CallerLemmas.{newest_after-append, rows_at-append}
use Rattle.xod_log.specs.declared.log.Log.{Log}
use Rattle.xod_recover.specs.Images.{AllStore, Settled, Stores}
use Rattle.xod_recover.specs.Stores.{Stored, rows_stored, stored_in}
use Rattle.xod_tables.specs.Reading.{rows_of}
use Rattle.xod_volume.specs.Crash.{Passes, Rests}
use Rattle.xod_volume.specs.Files.{Files}
use Rattle.xod_volume.proofs.CallerLemmas.{since_call}
use Rattle.xod_store.specs.Images.{IsPrefix, LeavesPrefixes, commit_left, synced_in}
use Rattle.xod_store.specs.Parts.{IsSafe}

-- ---- one image

module _ (start : Newest) (journal : List JournalEntry) (left : Files) where
  -- it stores what another one does
  pub prefix-as : (was : Files) → stored_in left ≡ stored_in was → IsPrefix start journal was → IsPrefix start journal left
  prefix-as was same old =
      let commit : commit_left left ≡ commit_left was = ap (λ o. unwrap_or (option_map (λ (s : Stored). s.commit) o) 0) same in
      let low = old.low in
      let high = old.high in
      record {
        good = ap is_some same ∙ old.good;
        low = omega (arith, commit);
        high = omega (arith, commit);
        rows = ap (option_and_then rows_stored) same ∙ old.rows ∙ ap (λ n. Some (rows_at n start.rows journal)) (sym commit);
      }

  -- it stores one of the journal's commits
  pub prefix-at : (stored : Stored) → stored_in left ≡ Some stored → start.commit ≤ stored.commit → stored.commit ≤ (newest_after start journal).commit → rows_of stored.trees ≡ Some (rows_at stored.commit start.rows journal)
      → IsPrefix start journal left
  prefix-at stored is least most tables =
      let commit : commit_left left ≡ stored.commit = ap (λ o. unwrap_or (option_map (λ (s : Stored). s.commit) o) 0) is in
      record {
        good = ap is_some is;
        low = omega (arith, commit);
        high = omega (arith, commit);
        rows = ap (option_and_then rows_stored) is ∙ tables ∙ ap (λ n. Some (rows_at n start.rows journal)) (sym commit);
      }

-- ---- all images

module _ (start : Newest) (journal : List JournalEntry) (since before : ℕ) (past : ℕ → Files → Type 0) (old : LeavesPrefixes start journal since before past) (later : since ≤ before) where
  pub leaves-rests : (now : ℕ) (images : ℕ → Files → Type 0) → Rests before now past images → LeavesPrefixes start journal since now images
  leaves-rests now images rests =
      let still = rests.still in
      record {
        each = λ left when. old.each left (when.0, when.1, omega (arith, when.2), rests.same when.0 left when.3);
        synced = λ left there. old.synced left (subst (λ n. past n left) still (rests.same now left there));
      }

  module _ (newest : Stored) (now : ℕ) (images : ℕ → Files → Type 0) (passes : Passes before now past images (Stores (Some newest)))
      (at : (left : Files) → stored_in left ≡ Some newest → IsPrefix start journal left) (synced : synced_in start journal ≤ newest.commit) where
    step_left : (was left : Files) → IsPrefix start journal was → Stores (Some newest) was left → IsPrefix start journal left
    step_left was left good stores = elim stores [
      | inl same ↦ prefix-as start journal left was same good
      | inr is ↦ at left is
    ]

    step_synced : (was left : Files) → synced_in start journal ≤ commit_left was → Stores (Some newest) was left → synced_in start journal ≤ commit_left left
    step_synced was left good stores = elim stores [
      | inl same ↦ let commit : commit_left left ≡ commit_left was = ap (λ o. unwrap_or (option_map (λ (s : Stored). s.commit) o) 0) same in omega (arith, commit)
      | inr is ↦ let commit : commit_left left ≡ newest.commit = ap (λ o. unwrap_or (option_map (λ (s : Stored). s.commit) o) 0) is in omega (arith, commit)
    ]

    pub leaves-passes : LeavesPrefixes start journal since now images
    leaves-passes = record {
      each = λ left when. elim (since_call since before now past images (Stores (Some newest)) passes left when) [
        | inl earlier ↦ old.each left earlier
        | inr call ↦ step_left call.0 left (old.each call.0 (before, later, omega arith, call.1)) call.2
      ];
      synced = λ left there. let call = passes.each now left passes.later (omega arith) there in step_synced call.0 left (old.synced call.0 call.1) call.2;
    }

-- ---- one entry more

module _ (start : Newest) (journal : List JournalEntry) (actor : ℕ) (st : Step) (grown : List JournalEntry) (entry : grown ≡ entered journal actor st)
    (rises : (newest_after start journal).commit ≤ (newest_step (newest_after start journal) st).commit)
    (stays : (n : ℕ) (rows : RowsValue) → n ≤ (newest_after start journal).commit → rows_step n rows st ≡ rows) where
  prefix-grown : (left : Files) → IsPrefix start journal left → IsPrefix start grown left
  prefix-grown left old =
      let newest : (newest_after start grown).commit ≡ (newest_step (newest_after start journal) st).commit = ap (λ j. (newest_after start j).commit) entry ∙ ap (λ (n : Newest). n.commit) (newest_after-append start journal _) in
      let high = old.high in
      record {
        good = old.good;
        low = old.low;
        high = omega (arith, newest);
        rows = old.rows ∙ ap Some (sym (ap (rows_at (commit_left left) start.rows) entry ∙ rows_at-append (commit_left left) start.rows journal _ ∙ stays (commit_left left) _ old.high));
      }

  pub leaves-grown : (since now : ℕ) (images : ℕ → Files → Type 0) → LeavesPrefixes start journal since now images → ((left : Files) → images now left → synced_in start grown ≤ commit_left left) → LeavesPrefixes start grown since now images
  leaves-grown since now images old synced = record { each = λ left when. prefix-grown left (old.each left when); synced = synced }

-- a step that makes no commit leaves all rows
pub no_rows_step : (st : Step) → ((rows : RowsValue) (n : ℕ) → rows_step n rows st ≡ rows) → (n : ℕ) (rows : RowsValue) (most : ℕ) → n ≤ most → rows_step n rows st ≡ rows
no_rows_step st same n rows most le = same rows n

-- a commit leaves those before it
pub commit_step : (changes : List RowChange) (version n : ℕ) (rows : RowsValue) → n < version → rows_step n rows (step.Flush changes (Some version)) ≡ rows
commit_step changes version n rows below =
    elim (nat_le version n) as (λ b. nat_le version n ≡ b → rows_step n rows (step.Flush changes (Some version)) ≡ rows) [
      | true ↦ λ is. let at : version ≤ n = leb-true version n is in absurd (omega arith)
      | false ↦ λ is. ap (λ b. cond b (all_applied rows changes) rows) is
    ] refl

-- ---- all of it

module _ (start : Newest) (journal : List JournalEntry) (since before : ℕ) (was_broken : Bool) (log : Log) (files : Files) (first past : ℕ → Files → Type 0) (old : IsSafe start journal since before was_broken log files first past) where
  -- a call that writes nothing
  pub safe-rests : (journal2 : List JournalEntry) (now : ℕ) (is_broken : Bool) (log2 : Log) (files2 : Files) (images : ℕ → Files → Type 0) → journal2 ≡ journal → Rests before now past images → is_broken ≡ was_broken
      → (IsSteady log files (past before) → IsSteady log2 files2 (images now)) → IsSafe start journal2 since now is_broken log2 files2 first images
  safe-rests journal2 now is_broken log2 files2 images same rests broken steady =
      let still = rests.still in
      let later = old.later in
      record {
        leaves = subst (λ j. LeavesPrefixes start j since now images) (sym same) (leaves-rests start journal since before past old.leaves old.later now images rests);
        later = omega arith;
        earlier = λ low held moment left least most there. old.earlier low held moment left least most (rests.same moment left there);
        steady = λ whole. steady (old.steady (sym broken ∙ whole));
      }

  -- a call over which images store what they did, or the newest commit
  pub safe-passes : (journal2 : List JournalEntry) (newest : Stored) (now : ℕ) (is_broken : Bool) (log2 : Log) (files2 : Files) (images : ℕ → Files → Type 0) → journal2 ≡ journal → Passes before now past images (Stores (Some newest))
      → ((left : Files) → stored_in left ≡ Some newest → IsPrefix start journal left) → synced_in start journal ≤ newest.commit
      → (is_broken ≡ false → IsSteady log2 files2 (images now)) → IsSafe start journal2 since now is_broken log2 files2 first images
  safe-passes journal2 newest now is_broken log2 files2 images same passes at synced steady =
      let later = old.later in
      let on = passes.later in
      record {
        leaves = subst (λ j. LeavesPrefixes start j since now images) (sym same) (leaves-passes start journal since before past old.leaves old.later newest now images passes at synced);
        later = omega arith;
        earlier = λ low held moment left least most there. old.earlier low held moment left least most (passes.same moment left (omega arith) there);
        steady = steady;
      }

  -- one entry more that makes no commit
  pub safe-entered : (actor : ℕ) (st : Step) (grown : List JournalEntry) → grown ≡ entered journal actor st → ((n : Newest) → newest_step n st ≡ n) → ((n : ℕ) (rows : RowsValue) → rows_step n rows st ≡ rows)
      → synced_in start grown ≡ synced_in start journal → IsSafe start grown since before was_broken log files first past
  safe-entered actor st grown entry quiet same synced = record {
    leaves = leaves-grown start journal actor st grown entry (let commit = ap (λ (n : Newest). n.commit) (quiet (newest_after start journal)) in omega (arith, commit)) (λ n rows _. same n rows) since before past old.leaves
        (λ left there. let low = old.leaves.synced left there in omega (arith, synced));
    later = old.later;
    earlier = old.earlier;
    steady = old.steady;
  }

  -- a commit
  pub safe-committed : (actor : ℕ) (changes : List RowChange) (version : ℕ) (grown : List JournalEntry) → grown ≡ entered journal actor (step.Flush changes (Some version)) → (newest_after start journal).commit < version
      → synced_in start grown ≡ synced_in start journal → IsSafe start grown since before was_broken log files first past
  safe-committed actor changes version grown entry above synced = record {
    leaves = leaves-grown start journal actor (step.Flush changes (Some version)) grown entry (omega arith) (λ n rows le. commit_step changes version n rows (omega arith)) since before past old.leaves
        (λ left there. let low = old.leaves.synced left there in omega (arith, synced));
    later = old.later;
    earlier = old.earlier;
    steady = old.steady;
  }

  -- a sync, after which each image stores the newest commit
  pub safe-synced : (actor : ℕ) (stored : Stored) (grown : List JournalEntry) → grown ≡ entered journal actor step.Sync → AllStore (Some stored) (past before) → synced_in start grown ≤ stored.commit → IsSafe start grown since before was_broken log files first past
  safe-synced actor stored grown entry all synced = record {
    leaves = leaves-grown start journal actor step.Sync grown entry (omega arith) (λ n rows _. refl) since before past old.leaves
        (λ left there. let commit : commit_left left ≡ stored.commit = ap (λ o. unwrap_or (option_map (λ (s : Stored). s.commit) o) 0) (all left there) in omega (arith, commit));
    later = old.later;
    earlier = old.earlier;
    steady = old.steady;
  }

-- a new store on a settled volume
pub safe-new : (start : Newest) (journal : List JournalEntry) (moment : ℕ) (is_broken : Bool) (log : Log) (files : Files) (images : ℕ → Files → Type 0) (stored : Stored) → journal ≡ [] → stored.commit ≡ start.commit → rows_of stored.trees ≡ Some start.rows
    → stored_in files ≡ Some stored → Settled files (images moment) → synced_in start journal ≡ start.commit → IsSteady log files (images moment) → IsSafe start journal moment moment is_broken log files images images
safe-new start journal moment is_broken log files images stored none commit tables is settled synced steady = record {
  leaves = record {
    each = λ left when. prefix-at start journal left stored (store left when.0 when.1 when.2 when.3) (omega (arith, commit)) (let newest = ap (λ j. (newest_after start j).commit) none in omega (arith, commit, newest))
        (tables ∙ ap (λ j. Some (rows_at stored.commit start.rows j)) (sym none));
    synced = λ left there. let same : commit_left left ≡ stored.commit = ap (λ o. unwrap_or (option_map (λ (s : Stored). s.commit) o) 0) (settled.alike left there ∙ is) in omega (arith, same, commit, synced);
  };
  later = omega arith;
  earlier = λ low held when left least most there. held when left least most there;
  steady = λ _. steady;
}
  where
    store : (left : Files) (when : ℕ) → moment ≤ when → when ≤ moment → images when left → stored_in left ≡ Some stored
    store left when least most there =
        let now : when ≡ moment = omega arith in
        settled.alike left (subst (λ n. images n left) now there) ∙ is
