-- What stands behind the last open mark is cut off: whatever the calls answered, what was found is kept.
use Rattle.std.proofs.Common.{◌≡◌, ◌<◌, ◌≤◌, ℕ, ◌+◌, ◌*◌, ◌^◌, List, take, Some, is_some, refl, sym, ◌∙◌, ap, subst, arith, inl, inr, pred}
use mathlib.Core.Logic.{◌≢◌}
use Rattle.std.proofs.lemmas.Bool.{cases_eq}
use Rattle.std.specs.FinMap.{get}
use Rattle.xod_volume.specs.Files.{Files, Content, bytes_in, bytes_of}
use Rattle.xod_volume.specs.Crash.{OnFile, OnBytes, Torn, Shortened}
use Rattle.xod_volume.proofs.CallerLemmas.{same_files}
use Rattle.xod_log.specs.Ends.{body_of, ends_of, numbers_at}
use Rattle.xod_recover.specs.Check.{Newest, check}
use Rattle.xod_recover.specs.Images.{Settled}
use Rattle.xod_recover.specs.Keeping.{KeepsFound}
use Rattle.xod_recover.specs.Opened.{open_count}
use Rattle.xod_recover.specs.Tails.{AllNear, AllNearAsFound, Covers, IsFoundIn, IsNear, IsNearBut}
use Rattle.xod_recover.proofs.Alike.{Agree}
use Rattle.xod_recover.proofs.CutImages.{Tail, cut_some, more_agrees, begins, cuts_body, closes, tail_agrees, count, file_above, file_body, file_ends, file_long, file_used}
use Rattle.xod_recover.proofs.CutReads.{settled_near}
use Rattle.xod_recover.proofs.Keeps.{keeps-as}

-- an image that uses no log file above is near but for any
pub but_any : (newest : Newest) (files left : Files) → IsNearBut newest newest.file files left → (other : ℕ) → IsNearBut newest other files left
but_any newest files left near other = record {
  has_body = near.has_body;
  has_ends = near.has_ends;
  others = λ more past low away. near.others more past low (λ e. omega (arith, e, past));
  lower = near.lower;
  covers = near.covers;
  count = near.count;
  says = near.says;
}

-- and near
pub near_found : (newest : Newest) (files : Files) (images : Files → Type 0) → AllNearAsFound newest files images → AllNear newest files images
near_found newest files images near left i =
    let n = near left i in
    record {
      has_body = n.has_body;
      has_ends = n.has_ends;
      above = λ more past low. n.others more (omega (arith, past)) low (λ e. omega (arith, e, past));
      lower = n.lower;
      covers = n.covers;
      says = λ more. n.says;
    }

module _ (newest : Newest) (files : Files) (found : IsFoundIn newest files) (fits : newest.end < 2 ^ 64) where
  abbrev file : ℕ
  file = newest.file

  abbrev m : ℕ
  m = newest.marks

  abbrev end : ℕ
  end = newest.end

  abbrev kept : ℕ
  kept = 13 * (m + 1)

  abbrev E : List ℕ
  E = bytes_of files (ends_of file)

  abbrev B : List ℕ
  B = bytes_of files (body_of file)

  near_self : IsNear newest files files
  near_self = record {
    has_body = file_body newest files found;
    has_ends = file_ends newest files found;
    above = file_above newest files found;
    lower = λ other lt there. refl;
    covers = (file_long newest files found, refl);
    says = λ more. refl;
  }

  keeps-agreeing : (left : Files) → Agree left files (check left) (check files) → is_some (get left (body_of file)) ≡ is_some (get files (body_of file)) → is_some (get left (ends_of file)) ≡ is_some (get files (ends_of file))
      → Covers B (bytes_of left (body_of file)) end → ((k : ℕ) → k ≢ body_of file → k ≢ ends_of file → get left k ≡ get files k) → KeepsFound newest files left
  keeps-agreeing left agree body ends covers others =
      let low : file ≤ 4294967295 = (file_used newest files found).1 in
      record {
        decided = agree.0;
        stored = agree.1;
        there = λ k. elim (cases_eq k (body_of file)) [
          | inl is ↦ subst (λ (j : ℕ). is_some (get left j) ≡ is_some (get files j)) (sym is) body
          | inr not_body ↦ elim (cases_eq k (ends_of file)) [
            | inl is ↦ subst (λ (j : ℕ). is_some (get left j) ≡ is_some (get files j)) (sym is) ends
            | inr not_ends ↦ ap (λ (c : Content). is_some c) (others k not_body not_ends)
          ]
        ];
        lower = λ k lt. others k (λ e. omega (arith, e, lt)) (λ e. omega (arith, e, lt));
        beyond = λ k lt. others k (λ e. omega (arith, e, lt, low)) (λ e. omega (arith, e, lt, low));
        front = covers;
      }

  tail_keeps : (left : Files) → Tail newest files found fits left → ((k : ℕ) → k ≢ body_of file → k ≢ ends_of file → get left k ≡ get files k) → KeepsFound newest files left
  tail_keeps left t others = keeps-agreeing left (tail_agrees newest files found fits left t) (t.has_body ∙ sym (file_body newest files found)) (ap (λ (c : Content). is_some c) t.there ∙ sym (file_ends newest files found)) t.covers others

  -- after the first call
  pub first_keeps : (F1 : Files) → OnFile (ends_of file) (OnBytes (Shortened kept)) files F1 → KeepsFound newest files F1
  first_keeps F1 on = elim (cut_some newest files found fits files F1 near_self on) [
    | inl same ↦ keeps-as newest files F1 (file_long newest files found) (same_files F1 files (λ k. elim (cases_eq k (ends_of file)) [
      | inl is ↦ subst (λ (j : ℕ). get F1 j ≡ get files j) (sym is) same
      | inr apart ↦ on.others k apart
    ]))
    | inr cut ↦
        let body : get F1 (body_of file) ≡ get files (body_of file) = on.others (body_of file) (λ e. omega (arith, e)) in
        keeps-agreeing F1 (more_agrees newest files found fits files F1 near_self on.others cut (omega (arith, count newest files found)))
        (ap (λ (c : Content). is_some c) body) (ap (λ (c : Content). is_some c) cut ∙ sym (file_ends newest files found))
        (subst (λ (c : Content). Covers B (bytes_in c) end) (sym body) (file_long newest files found, refl))
        (λ k not_body not_ends. on.others k not_ends)
  ]

  -- the first was made, and the second answered
  module _ (F1 : Files) (first : OnFile (ends_of file) (OnBytes (Shortened kept)) files F1) (cut : get F1 (ends_of file) ≡ Some (take kept E)) (F2 : Files) (second : OnFile (body_of file) (OnBytes (Shortened end)) F1 F2) where
    two_tail : Tail newest files found fits F2
    two_tail = cuts_body newest files found fits F1 F2 (begins newest files found fits files F1 near_self cut first) second

    pub second_keeps : KeepsFound newest files F2
    second_keeps = tail_keeps F2 two_tail (λ k not_body not_ends. second.others k not_body ∙ first.others k not_ends)

    -- and the third
    pub third_keeps : (F3 : Files) → OnFile (ends_of file) (OnBytes (Torn (13 * m) 13)) F2 F3 → KeepsFound newest files F3
    third_keeps F3 third = tail_keeps F3 (closes newest files found fits F2 F3 two_tail third) (λ k not_body not_ends. third.others k not_ends ∙ second.others k not_body ∙ first.others k not_ends)

  -- a settled volume is near
  pub settled_found : (images : Files → Type 0) → Settled files images → AllNearAsFound newest files images
  settled_found images settled left i =
      let near = settled_near newest files found fits images settled left i in
      let ends = settled.each_file (ends_of file) (file_ends newest files found) left i in
      record {
        has_body = near.has_body;
        has_ends = near.has_ends;
        others = λ more past low away. near.above more (omega (arith, past)) low;
        lower = near.lower;
        covers = near.covers;
        count = ap (λ (c : Content). open_count (bytes_in c)) ends ∙ count newest files found;
        says = ap (λ (c : Content). numbers_at (bytes_in c) (pred m)) ends;
      }
