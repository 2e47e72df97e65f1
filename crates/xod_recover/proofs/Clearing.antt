-- A log file above the one found is emptied: what each image stores on the way, and what reads give.
use Rattle.std.proofs.Common.{◌≡◌, ◌<◌, ◌≤◌, ◌⊎◌, ℕ, suc, pred, true, false, ltb, List, [], take, Some, None, is_some, refl, sym, ◌∙◌, ap, subst, arith, inl, inr}
use mathlib.Core.Logic.{◌≢◌}
use Rattle.std.proofs.lemmas.Bool.{cases_Bool, cases_eq, cases_lt, lt-ltb, ltb-true, true≢false}
use Rattle.std.specs.FinMap.{get, insert}
use Rattle.xod_volume.specs.Files.{Files, Content, bytes_in, bytes_of}
use Rattle.xod_volume.specs.Crash.{OnFile, OnBytes, Shortened, Passes, IsSame}
use Rattle.xod_volume.proofs.CallerLemmas.{same_files}
use Rattle.xod_log.specs.Ends.{numbers_at, body_of, ends_of}
use Rattle.xod_log.specs.Runs.{Run}
use Rattle.xod_log.specs.Standing.{IsDurablePair, last_file}
use Rattle.xod_log.proofs.CallerLemmas.{begun, goes, sure, other_file}
use Rattle.xod_recover.specs.Check.{Newest, check}
use Rattle.xod_recover.specs.Images.{Settled}
use Rattle.xod_recover.specs.Keeping.{KeepsFound}
use Rattle.xod_recover.specs.Opened.{open_count, is_used}
use Rattle.xod_recover.specs.Stores.{stored_in}
use Rattle.xod_recover.specs.Tails.{Covers, IsFoundIn, IsNearBut, AllNear, AllNearBut}
use Rattle.xod_recover.proofs.Alike.{Agree}
use Rattle.xod_recover.proofs.CutImages.{agrees, count, file_above, file_body, file_ends, file_long, file_used}
use Rattle.xod_recover.proofs.Greatest.{same_used, used_alike, used_by_count, used_has}
use Rattle.xod_recover.proofs.Keeps.{on_there}

none_open : open_count [] ≡ 0
unfolding open_count
none_open = refl

-- a file with empty ends is not used
pub empty_unused : (left : Files) (other : ℕ) → get left (ends_of other) ≡ Some [] → is_used left other ≡ false
empty_unused left other empty = elim (cases_Bool (is_used left other)) [
  | inl used ↦ absurd (omega (arith, ltb-true 0 (open_count (bytes_of left (ends_of other))) (used_has left other used).some, ap (λ (c : Content). open_count (bytes_in c)) empty, none_open))
  | inr unused ↦ unused
]

-- a cut to nothing was made or not
cut_or_not : (was left : Content) → OnBytes (Shortened 0) was left → (left ≡ was) ⊎ (left ≡ Some [])
cut_or_not None left on = inl on
cut_or_not (Some bytes) left (is, there, inl same) = inl (there ∙ ap (λ (l : List ℕ). Some l) same)
cut_or_not (Some bytes) left (is, there, inr cut) = inr (there ∙ ap (λ (l : List ℕ). Some l) cut)

-- what reads give
pub emptied_reads : (F F1 F2 : Files) (other : ℕ) (was : List ℕ) → F1 ≡ insert F (ends_of other) (take 0 (bytes_of F (ends_of other))) → F2 ≡ insert F1 (body_of other) was
    → (k : ℕ) → k ≢ body_of other → k ≢ ends_of other → get F2 k ≡ get F k
emptied_reads F F1 F2 other was first then k not_body not_ends = other_file F1 F2 (body_of other) k was not_body then ∙ other_file F F1 (ends_of other) k (take 0 (bytes_of F (ends_of other))) not_ends first

module _ (newest : Newest) (files : Files) (found : IsFoundIn newest files) (other : ℕ) (gt : newest.file < other) where
  abbrev file : ℕ
  file = newest.file

  -- where that file is not used, an image stores what was found
  but_agrees : (left : Files) → IsNearBut newest other files left → is_used left other ≡ false → Agree left files (check left) (check files)
  but_agrees left near unused = agrees newest files found found.fits left near.has_body near.has_ends
      (λ more above low. elim (cases_eq more other) [
        | inl is ↦ subst (λ (k : ℕ). is_used left k ≡ false) (sym is) unused
        | inr apart ↦ near.others more (omega (arith, above)) low apart
      ]) near.lower near.covers near.count near.says

  -- a call on a file of that pair leaves all else
  but_on : (which : ℕ) → (which ≡ body_of other) ⊎ (which ≡ ends_of other) → (was left : Files) → IsNearBut newest other files was → ((k : ℕ) → k ≢ which → get left k ≡ get was k) → IsNearBut newest other files left
  but_on which is was left near others =
      let apart : (k : ℕ) → k ≢ other → (get left (body_of k) ≡ get was (body_of k)) × (get left (ends_of k) ≡ get was (ends_of k)) = λ k away. elim is [
        | inl body ↦ (others (body_of k) (λ e. away (omega (arith, e, body))), others (ends_of k) (λ e. omega (arith, e, body)))
        | inr ends ↦ (others (body_of k) (λ e. omega (arith, e, ends)), others (ends_of k) (λ e. away (omega (arith, e, ends))))
      ] in
      let here = apart file (λ e. omega (arith, e, gt)) in
      record {
        has_body = ap (λ (c : Content). is_some c) here.0 ∙ near.has_body;
        has_ends = ap (λ (c : Content). is_some c) here.1 ∙ near.has_ends;
        others = λ more past low away. let same = apart more away in same_used left was more same.0 same.1 ∙ near.others more past low away;
        lower = λ low lt there. (apart low (λ e. omega (arith, e, lt, gt))).0 ∙ near.lower low lt there;
        covers = subst (λ (c : Content). Covers (bytes_of files (body_of file)) (bytes_in c) newest.end) (sym here.0) near.covers;
        count = ap (λ (c : Content). open_count (bytes_in c)) here.1 ∙ near.count;
        says = ap (λ (c : Content). numbers_at (bytes_in c) (pred newest.marks)) here.1 ∙ near.says;
      }

  -- what reads give is near, too
  files_near : IsNearBut newest other files files
  files_near = record {
    has_body = file_body newest files found;
    has_ends = file_ends newest files found;
    others = λ more past low away. file_above newest files found more (omega (arith, past)) low;
    lower = λ low lt there. refl;
    covers = (file_long newest files found, refl);
    count = count newest files found;
    says = refl;
  }

  -- and so is what they give where all else is as it was
  near_still : (after : Files) → ((k : ℕ) → k ≢ body_of other → k ≢ ends_of other → get after k ≡ get files k) → IsNearBut newest other files after
  near_still after others =
      let apart : (k : ℕ) → k ≢ other → (get after (body_of k) ≡ get files (body_of k)) × (get after (ends_of k) ≡ get files (ends_of k)) = λ k away. (
        others (body_of k) (λ e. away (omega (arith, e))) (λ e. omega (arith, e)),
        others (ends_of k) (λ e. omega (arith, e)) (λ e. away (omega (arith, e))),
      ) in
      let here = apart file (λ e. omega (arith, e, gt)) in
      record {
        has_body = ap (λ (c : Content). is_some c) here.0 ∙ files_near.has_body;
        has_ends = ap (λ (c : Content). is_some c) here.1 ∙ files_near.has_ends;
        others = λ more past low away. let same = apart more away in same_used after files more same.0 same.1 ∙ files_near.others more past low away;
        lower = λ low lt there. (apart low (λ e. omega (arith, e, lt, gt))).0;
        covers = subst (λ (c : Content). Covers (bytes_of files (body_of file)) (bytes_in c) newest.end) (sym here.0) files_near.covers;
        count = ap (λ (c : Content). open_count (bytes_in c)) here.1 ∙ files_near.count;
        says = ap (λ (c : Content). numbers_at (bytes_in c) (pred newest.marks)) here.1;
      }

  -- what was found is found still
  pub found_still : (after : Files) → ((k : ℕ) → k ≢ body_of other → k ≢ ends_of other → get after k ≡ get files k) → get after (ends_of other) ≡ Some [] → IsFoundIn newest after
  found_still after others empty =
      let near = near_still after others in
      record {
        some = found.some;
        fits = found.fits;
        decided = (but_agrees after near (empty_unused after other empty)).0 ∙ found.decided;
        says = near.says ∙ found.says;
      }

  -- whatever the calls on that pair answered, what was found is kept
  kept_still : other ≤ last_file → (after : Files) → ((k : ℕ) → k ≢ body_of other → k ≢ ends_of other → get after k ≡ get files k) → is_some (get after (body_of other)) ≡ is_some (get files (body_of other))
      → OnBytes (Shortened 0) (get files (ends_of other)) (get after (ends_of other)) → KeepsFound newest files after
  kept_still low after others body ends =
      let unused : is_used after other ≡ false = elim (cut_or_not (get files (ends_of other)) (get after (ends_of other)) ends) [
        | inl same ↦ used_alike after files other body same ∙ file_above newest files found other (omega (arith, gt)) low
        | inr empty ↦ empty_unused after other empty
      ] in
      let near = near_still after others in
      let agree = but_agrees after near unused in
      record {
        decided = agree.0;
        stored = agree.1;
        there = λ k. elim (cases_eq k (body_of other)) [
          | inl is ↦ subst (λ (j : ℕ). is_some (get after j) ≡ is_some (get files j)) (sym is) body
          | inr not_body ↦ elim (cases_eq k (ends_of other)) [
            | inl is ↦ subst (λ (j : ℕ). is_some (get after j) ≡ is_some (get files j)) (sym is) (on_there (Shortened 0) (get files (ends_of other)) (get after (ends_of other)) ends)
            | inr not_ends ↦ ap (λ (c : Content). is_some c) (others k not_body not_ends)
          ]
        ];
        lower = λ k lt. others k (λ e. omega (arith, e, lt, gt)) (λ e. omega (arith, e, lt, gt));
        beyond = λ k lt. others k (λ e. omega (arith, e, lt, low)) (λ e. omega (arith, e, lt, low));
        front = near.covers;
      }

  -- after the first call
  pub keeps_one : other ≤ last_file → (F1 : Files) → OnFile (ends_of other) (OnBytes (Shortened 0)) files F1 → KeepsFound newest files F1
  keeps_one low F1 on = kept_still low F1 (λ k not_body not_ends. on.others k not_ends) (ap (λ (c : Content). is_some c) (on.others (body_of other) (λ e. omega (arith, e)))) on.here

  -- and after both
  pub keeps_both : other ≤ last_file → (F1 F2 : Files) → OnFile (ends_of other) (OnBytes (Shortened 0)) files F1 → OnFile (body_of other) (OnBytes (Shortened 0)) F1 F2 → KeepsFound newest files F2
  keeps_both low F1 F2 first second = kept_still low F2
      (λ k not_body not_ends. second.others k not_body ∙ first.others k not_ends)
      (on_there (Shortened 0) (get F1 (body_of other)) (get F2 (body_of other)) second.here ∙ ap (λ (c : Content). is_some c) (first.others (body_of other) (λ e. omega (arith, e))))
      (subst (λ (c : Content). OnBytes (Shortened 0) (get files (ends_of other)) c) (sym (second.others (ends_of other) (λ e. omega (arith, e)))) first.here)

  -- a settled volume is near
  pub settled_but : (images : Files → Type 0) → Settled files images → AllNearBut newest other files images
  settled_but images settled left i =
      let body = settled.each_file (body_of file) files_near.has_body left i in
      let ends = settled.each_file (ends_of file) files_near.has_ends left i in
      record {
        has_body = ap (λ (c : Content). is_some c) body ∙ files_near.has_body;
        has_ends = ap (λ (c : Content). is_some c) ends ∙ files_near.has_ends;
        others = λ more past low away. settled.above left i (suc file) (omega arith) (file_above newest files found) more (omega (arith, past)) low;
        lower = λ low lt there. settled.each_file (body_of low) there left i;
        covers = subst (λ (c : Content). Covers (bytes_of files (body_of file)) (bytes_in c) newest.end) (sym body) files_near.covers;
        count = ap (λ (c : Content). open_count (bytes_in c)) ends ∙ files_near.count;
        says = ap (λ (c : Content). numbers_at (bytes_in c) (pred newest.marks)) ends;
      }

  module _ (t0 : ℕ) (i0 : ℕ → Files → Type 0) (all_near : AllNearBut newest other files (i0 t0)) where
    abbrev pub P : Files → Files → Type 0
    P was left = (stored_in left ≡ stored_in was) ⊎ (stored_in left ≡ stored_in files)

    abbrev pub Cut : Files → Files → Type 0
    Cut was left = OnFile (ends_of other) (OnBytes (Shortened 0)) was left

    -- the ends are empty, and the files beside the pair are as they were
    pub record Empty (was left : Files) : Type 0 where
      pub near : IsNearBut newest other files left
      pub ends : get left (ends_of other) ≡ Some []
      pub others : (k : ℕ) → k ≢ body_of other → k ≢ ends_of other → get left k ≡ get was k

    empty_stored : (was left : Files) → Empty was left → stored_in left ≡ stored_in files
    empty_stored was left e = (but_agrees left e.near (empty_unused left other e.ends)).1

    cut_fine : (was left : Files) → i0 t0 was → Cut was left → P was left
    cut_fine was left i on = elim (cut_or_not (get was (ends_of other)) (get left (ends_of other)) on.here) [
      | inl same ↦ inl (ap stored_in (same_files left was (λ k. elim (cases_eq k (ends_of other)) [
        | inl is ↦ subst (λ (j : ℕ). get left j ≡ get was j) (sym is) same
        | inr apart ↦ on.others k apart
      ])))
      | inr empty ↦ inr (but_agrees left (but_on (ends_of other) (inr refl) was left (all_near was i) on.others) (empty_unused left other empty)).1
    ]

    pub ends_emptied : (t1 : ℕ) (i1 : ℕ → Files → Type 0) → Passes t0 t1 i0 i1 (OnFile (ends_of other) (OnBytes (Shortened 0))) → Run t0 t1 i0 i1 P Cut
    ends_emptied t1 i1 passes =
        goes t0 i0 P t0 t1 i0 i1 IsSame Cut Cut
        (begun t0 i0 P IsSame (λ was i. refl) (λ was left i same. inl (ap stored_in same)))
        passes
        (λ was mid left i same on. subst (λ (c : Files). Cut c left) same on)
        cut_fine

    module _ (t1 : ℕ) (i1 : ℕ → Files → Type 0) (first : Passes t0 t1 i0 i1 (OnFile (ends_of other) (OnBytes (Shortened 0)))) (durable : (left : Files) → i1 t1 left → get left (ends_of other) ≡ Some [])
        (t2 : ℕ) (i2 : ℕ → Files → Type 0) (second : Passes t1 t2 i1 i2 (OnFile (body_of other) (OnBytes (Shortened 0)))) where
      pub run_both : Run t0 t2 i0 i2 P Empty
      run_both = goes t0 i0 P t1 t2 i1 i2 Empty Empty (OnFile (body_of other) (OnBytes (Shortened 0)))
          (sure t0 i0 P t1 i1 Cut Empty (ends_emptied t1 i1 first) (λ was left i now on. record { near = but_on (ends_of other) (inr refl) was left (all_near was i) on.others; ends = durable left now; others = λ k a b. on.others k b }))
          second
          (λ was mid left i e on. record { near = but_on (body_of other) (inl refl) mid left e.near on.others; ends = on.others (ends_of other) (λ is. omega (arith, is)) ∙ e.ends; others = λ k a b. on.others k a ∙ e.others k a b })
          (λ was left i e. inr (empty_stored was left e))

      module _ (after : Files) (reads : (k : ℕ) → k ≢ body_of other → k ≢ ends_of other → get after k ≡ get files k) where
        pub near_both : AllNear newest after (i2 t2)
        near_both left i =
            let from = run_both.present left i in
            let e = from.2 in
            let body : get after (body_of file) ≡ get files (body_of file) = reads (body_of file) (λ is. omega (arith, is, gt)) (λ is. omega (arith, is)) in
            let ends : get after (ends_of file) ≡ get files (ends_of file) = reads (ends_of file) (λ is. omega (arith, is)) (λ is. omega (arith, is, gt)) in
            record {
              has_body = e.near.has_body;
              has_ends = e.near.has_ends;
              above = λ more past low. elim (cases_eq more other) [
                | inl is ↦ subst (λ (k : ℕ). is_used left k ≡ false) (sym is) (empty_unused left other e.ends)
                | inr apart ↦ e.near.others more (omega (arith, past)) low apart
              ];
              lower = λ low lt there.
                  let same : get after (body_of low) ≡ get files (body_of low) = reads (body_of low) (λ is. omega (arith, is, lt, gt)) (λ is. omega (arith, is)) in
                  e.near.lower low lt (sym (ap (λ (c : Content). is_some c) same) ∙ there) ∙ sym same;
              covers = subst (λ (c : Content). Covers (bytes_in c) (bytes_of left (body_of file)) newest.end) (sym body) e.near.covers;
              says = λ more. e.near.says ∙ sym (ap (λ (c : Content). numbers_at (bytes_in c) (pred newest.marks)) ends);
            }

        pub as_found_both : AllNearBut newest file after (i2 t2)
        as_found_both left i =
            let near = near_both left i in
            let e = (run_both.present left i).2 in
            let ends : get after (ends_of file) ≡ get files (ends_of file) = reads (ends_of file) (λ is. omega (arith, is)) (λ is. omega (arith, is, gt)) in
            record {
              has_body = near.has_body;
              has_ends = near.has_ends;
              others = λ more past low away. near.above more (omega (arith, past)) low;
              lower = near.lower;
              covers = near.covers;
              count = e.near.count;
              says = e.near.says ∙ sym (ap (λ (c : Content). numbers_at (bytes_in c) (pred newest.marks)) ends);
            }

        -- and a settled volume is settled again
        pub settled_cleared : Settled files (i0 t0) → i2 t2 after → IsDurablePair other after (i2 t2) → Settled after (i2 t2)
        settled_cleared settled here pair =
            let kept = (run_both.present after here).2 in
            let used : is_used after file ≡ true = used_by_count after file kept.near.has_body kept.near.has_ends ∙ ap (ltb 0) kept.near.count ∙ lt-ltb 0 newest.marks found.some in
            record {
              each_file = λ k there left i. elim (cases_eq k (body_of other)) [
                | inl is ↦ subst (λ (j : ℕ). get left j ≡ get after j) (sym is) (pair.body left i)
                | inr not_body ↦ elim (cases_eq k (ends_of other)) [
                  | inl is ↦ subst (λ (j : ℕ). get left j ≡ get after j) (sym is) (pair.ends left i)
                  | inr not_ends ↦
                      let same = reads k not_body not_ends in
                      let from = run_both.present left i in
                      from.2.others k not_body not_ends ∙ settled.each_file k (sym (ap (λ (c : Content). is_some c) same) ∙ there) from.0 from.1 ∙ sym same
                ]
              ];
              alike = λ left i. let from = run_both.present left i in empty_stored from.0 left from.2 ∙ sym (empty_stored (run_both.present after here).0 after kept);
              above = λ left i k some unused more le low. elim (cases_lt file more) [
                | inl past ↦ (near_both left i).above more (omega (arith, past)) low
                | inr not ↦ absurd (true≢false (sym used ∙ unused file (omega (arith, le, not)) (file_used newest files found).1))
              ];
            }
