-- The check finds exactly the newest root.
use Rattle.std.proofs.Common.{◌≡◌, ◌<◌, ◌⊎◌, ◌-◌, ◌*◌, ℕ, zero, suc, pred, Bool, true, false, ◌&&◌, cond, ltb, List, [], ◌∷◌, length, take, drop, Option, Some, None, Result, Ok, Err, refl, sym, ap, ◌∙◌, subst, arith, inl, inr}
use Rattle.std.specs.Prelude.{is_some}
use Rattle.std.specs.FinMap.{get, keys}
use Rattle.std.proofs.lemmas.Bool.{and_parts, ltb-true, ltb-false, le-ltb}
use Rattle.std.proofs.lemmas.Option.{cond_some}
use Rattle.xod_base.specs.declared.causes.Place.{Place}
use Rattle.xod_volume.specs.Files.{Files, bytes_of}
use Rattle.xod_tables.specs.Reading.{rows_of}
use Rattle.xod_log.specs.Ends.{end_at, back_at, body_of, ends_of}
use Rattle.xod_recover.specs.Check.{Newest, Rooted, no_newest, check, check_used, check_file, check_body, check_back, check_root, check_trees, has_body, records_upto, root_address, rooted_in, trees_under}
use Rattle.xod_recover.specs.Newest.{IsNewest}
use Rattle.xod_recover.specs.Opened.{open_count, is_used, log_file_of, used_at, later_or, last_used, greatest_used}
use Rattle.xod_recover.specs.Walks.{bad_trees}
use Rattle.xod_recover.proofs.Tabling.{ok-tables, trees-ok}

-- ---- the file that is used last is used

used-here : (files : Files) (o : Option ℕ) (file : ℕ) → used_at files o ≡ Some file → is_used files file ≡ true
used-here files None file e = absurd cc
used-here files (Some other) file e =
    let g = cond_some (is_used files other) other file e in
    subst (λ (f : ℕ). is_used files f ≡ true) g.1 g.0

later-used : (files : Files) (later earlier : Option ℕ) (file : ℕ) → (later ≡ Some file → is_used files file ≡ true) → (earlier ≡ Some file → is_used files file ≡ true) → later_or later earlier ≡ Some file → is_used files file ≡ true
later-used files None earlier file a b e = b e
later-used files (Some later) earlier file a b e = a e

last-used : (files : Files) (numbers : List ℕ) (file : ℕ) → last_used files numbers ≡ Some file → is_used files file ≡ true
last-used files [] file e = absurd cc
last-used files (number ∷ numbers) file e = later-used files (last_used files numbers) (used_at files (log_file_of number)) file (last-used files numbers file) (used-here files (log_file_of number) file) e

pub greatest-used : (files : Files) (file : ℕ) → greatest_used files ≡ Some file → is_used files file ≡ true
unfolding greatest_used
greatest-used files file e = last-used files (keys files) file e

-- so it has both its files, and a mark is open
pub used-parts : (files : Files) (file : ℕ) → is_used files file ≡ true → (is_some (get files (body_of file)) ≡ true) × (is_some (get files (ends_of file)) ≡ true) × (0 < open_count (bytes_of files (ends_of file)))
unfolding is_used
used-parts files file e =
    let a = and_parts (is_some (get files (body_of file))) (is_some (get files (ends_of file)) && ltb 0 (open_count (bytes_of files (ends_of file)))) e in
    let b = and_parts (is_some (get files (ends_of file))) (ltb 0 (open_count (bytes_of files (ends_of file)))) a.1 in
    (a.0, b.0, ltb-true 0 (open_count (bytes_of files (ends_of file))) b.1)

suc-pred : (n : ℕ) → 0 < n → suc (pred n) ≡ n
suc-pred zero lt = absurd (omega (arith, lt))
suc-pred (suc n) lt = refl

-- ---- what the steps give is the newest root

passes : (test : Bool) (place : Place) (next : Result Newest Place) (found : Newest) → cond test (Err place) next ≡ Ok found → (test ≡ false) × (next ≡ Ok found)
passes true place next found e = absurd cc
passes false place next found e = (refl, e)

a_root : (files : Files) (found : Newest) (file mark end back : ℕ) (rooted : Option Rooted) → check_root files file mark end back rooted ≡ Ok found → (root : Rooted) × (rooted ≡ Some root) × (check_root files file mark end back (Some root) ≡ Ok found)
a_root files found file mark end back None e = absurd cc
a_root files found file mark end back (Some root) e = (root, refl, e)

module _ (files : Files) where
  abbrev E : ℕ → List ℕ
  E file = bytes_of files (ends_of file)

  abbrev B : ℕ → List ℕ
  B file = bytes_of files (body_of file)

  marked-newest : (found : Newest) (file : ℕ) → greatest_used files ≡ Some file → check_file files file ≡ Ok found → IsNewest files found
  marked-newest found file used e =
      let mark = pred (open_count (E file)) in
      let end = end_at (E file) mark in
      let back = back_at (E file) mark in
      let open_some = (used-parts files file (greatest-used files file used)).2 in
      let all = suc-pred (open_count (E file)) open_some in
      let long = passes (ltb (length (B file)) end) (record { file = body_of file; at = length (B file) }) (check_back files file mark end back) found e in
      let near = passes (ltb end back) (record { file = ends_of file; at = 13 * mark }) (check_root files file mark end back (rooted_in (drop (end - back) (take end (B file))))) found long.1 in
      let root = a_root files found file mark end back (rooted_in (drop (end - back) (take end (B file)))) near.1 in
      let newest : Newest = record { file = file; marks = suc mark; end = end; back = back; commit = root.0.0; trees = root.0.1 } in
      let whole = trees-ok files newest found (bad_trees (records_upto files file end) (has_body files) (root_address file end back) root.0.1) root.2 in
      let is : IsNewest files newest = record {
        used = used;
        some = omega arith;
        count = sym all;
        end_is = refl;
        back_is = refl;
        long = ltb-false (length (B file)) end long.0;
        within = ltb-false end back near.0;
        root = root.1;
        whole = whole.0;
        tables = whole.2;
      } in
      subst (IsNewest files) whole.1 is

  -- it is that of the mark
  pub body-numbers : (found : Newest) (file mark end back : ℕ) → check_body files file mark end back ≡ Ok found → (found.file ≡ file) × (found.marks ≡ suc mark) × (found.end ≡ end) × (found.back ≡ back)
  body-numbers found file mark end back e =
      let long = passes (ltb (length (B file)) end) (record { file = body_of file; at = length (B file) }) (check_back files file mark end back) found e in
      let near = passes (ltb end back) (record { file = ends_of file; at = 13 * mark }) (check_root files file mark end back (rooted_in (drop (end - back) (take end (B file))))) found long.1 in
      let root = a_root files found file mark end back (rooted_in (drop (end - back) (take end (B file)))) near.1 in
      let newest : Newest = record { file = file; marks = suc mark; end = end; back = back; commit = root.0.0; trees = root.0.1 } in
      let same = (trees-ok files newest found (bad_trees (records_upto files file end) (has_body files) (root_address file end back) root.0.1) root.2).1 in
      (sym (ap (λ (n : Newest). n.file) same), sym (ap (λ (n : Newest). n.marks) same), sym (ap (λ (n : Newest). n.end) same), sym (ap (λ (n : Newest). n.back) same))

  used-newest : (found : Newest) (used : Option ℕ) → greatest_used files ≡ used → check_used files used ≡ Ok found → ((greatest_used files ≡ None) × (found ≡ no_newest)) ⊎ IsNewest files found
  used-newest found None is e = inl (is, cc e)
  used-newest found (Some file) is e = inr (marked-newest found file is e)

  pub check-newest : (found : Newest) → check files ≡ Ok found → ((greatest_used files ≡ None) × (found ≡ no_newest)) ⊎ IsNewest files found
  unfolding check
  check-newest found e = used-newest found (greatest_used files) refl e

  -- ---- and the other way round

  newest-file : (n : Newest) → IsNewest files n → check_file files n.file ≡ Ok n
  newest-file n is =
      let mark = pred n.marks in
      let long : ltb (length (B n.file)) n.end ≡ false = le-ltb (length (B n.file)) n.end is.long in
      let near : ltb n.end n.back ≡ false = le-ltb n.end n.back is.within in
      let step : ℕ → ℕ → ℕ → Result Newest Place = λ m end back. check_body files n.file m end back in
      let made : ℕ → Result Newest Place = λ marks. Ok (record { file = n.file; marks = marks; end = n.end; back = n.back; commit = n.commit; trees = n.trees }) in
      let root = rooted_in (drop (n.end - n.back) (take n.end (B n.file))) in
      let named : Newest = record { file = n.file; marks = suc mark; end = n.end; back = n.back; commit = n.commit; trees = n.trees } in
      ap (λ (m : ℕ). step m (end_at (E n.file) m) (back_at (E n.file) m)) (ap pred is.count)
      ∙ ap (λ (end : ℕ). step mark end (back_at (E n.file) mark)) (sym is.end_is)
      ∙ ap (step mark n.end) (sym is.back_is)
      ∙ ap (λ (b : Bool). cond b (Err (record { file = body_of n.file; at = length (B n.file) })) (check_back files n.file mark n.end n.back)) long
      ∙ ap (λ (b : Bool). cond b (Err (record { file = ends_of n.file; at = 13 * mark })) (check_root files n.file mark n.end n.back root)) near
      ∙ ap (check_root files n.file mark n.end n.back) is.root
      ∙ ap (check_trees files named) is.whole
      ∙ ok-tables named (rows_of (trees_under files named)) is.tables
      ∙ ap made (suc-pred n.marks is.some)

  pub newest-check : (found : Newest) → ((greatest_used files ≡ None) × (found ≡ no_newest)) ⊎ IsNewest files found → check files ≡ Ok found
  unfolding check
  newest-check found (inl none) = ap (check_used files) none.0 ∙ ap (λ (n : Newest). Ok n) (sym none.1)
  newest-check found (inr is) = ap (check_used files) is.used ∙ newest-file found is
