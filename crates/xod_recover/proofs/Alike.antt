-- When two sets of files are decided alike and store the same: what stands behind the end of the last open mark is not
-- looked at, nor what stands in the log files above.
use Rattle.std.proofs.Common.{◌≡◌, ◌<◌, ◌≤◌, ℕ, zero, suc, pred, ◌+◌, ◌-◌, ◌*◌, ◌/◌, ◌%◌, ◌^◌, Bool, true, false, ◌&&◌, cond, eqb, ltb, List, [], ◌∷◌, length, take, drop, Option, Some, None, Result, Ok, Err, is_some, refl, sym, ◌∙◌, ap, subst, arith, inl, inr}
use Rattle.std.specs.Prelude.{IfSome}
use mathlib.Core.Logic.{◌≢◌}
use Rattle.std.specs.FinMap.{get, from_entries}
use Rattle.std.specs.List.{AllByRecursion}
use Rattle.std.specs.Option.{option_map}
use Rattle.std.specs.Int.{w64, w32, from_be_bytes}
use Rattle.std.proofs.Math.Path.{fun_ext}
use Rattle.std.proofs.lemmas.Bool.{cases_lt, cases_eq, cond-false, eq-eqb, le-ltb, ltb-false}
use Rattle.xod_base.specs.Rows.{RowsValue}
use Rattle.xod_base.specs.Views.{Trees}
use Rattle.xod_base.specs.declared.causes.Place.{Place}
use Rattle.xod_volume.specs.Files.{Files, Content, bytes_in, bytes_of}
use Rattle.xod_block.specs.declared.address.Address.{Address}
use Rattle.xod_block.specs.Addresses.{number_of}
use Rattle.xod_block.specs.Fetches.{place_of}
use Rattle.xod_block.specs.Maps.{RecordsAt, Pairs}
use Rattle.xod_block.specs.Reading.{record_in}
use Rattle.xod_block.specs.Records.{Link, RecordValue}
use Rattle.xod_block.proofs.CallerLemmas.{map_at-agree}
use Rattle.xod_trie.specs.declared.branch.Branch.{Branch}
use Rattle.xod_trie.specs.Branches.{branch_of}
use Rattle.xod_trie.specs.Tries.{TrieMap, trie_map}
use Rattle.xod_log.specs.Ends.{numbers_at, end_at, back_at, body_of, ends_of}
use Rattle.xod_tables.specs.Reading.{rows_of}
use Rattle.xod_recover.specs.Check.{Newest, Rooted, no_newest, bodies_upto, records_upto, has_body, rooted_in, root_address, root_of, trees_under, check_tables, check_trees, check_root, check_back, check_body, check_file, check_used, check}
use Rattle.xod_recover.specs.Opened.{open_count, is_used, greatest_used}
use Rattle.xod_recover.specs.Stores.{Stored, stored_of}
use Rattle.xod_recover.specs.Walks.{file_at, or_else, first_bad, bad_branch, bad_within, bad_under, bad_trees}
use Rattle.xod_recover.specs.Whole.{IsWhole}
use Rattle.xod_recover.proofs.Greatest.{greatest_alike, greatest_used_is}
use Rattle.xod_recover.proofs.Tabling.{trees-ok}
use Rattle.xod_recover.proofs.Wholes.{trees-whole}

-- ---- tries go by the records below them

first_bad-alike : (f g : Address → Option Place) → ((child : Address) → f child ≡ g child) → (children : List Link) → first_bad f children ≡ first_bad g children
first_bad-alike f g same [] = refl
first_bad-alike f g same (child ∷ children) =
    ap (λ (o : Option Place). or_else o (first_bad f children)) (same child.1)
    ∙ ap (or_else (g child.1)) (first_bad-alike f g same children)

branch-alike : (f g : Address → Address → Option Place) (at : Address) → ((child : Address) → f at child ≡ g at child) → (branch : Option Branch) → bad_branch f at branch ≡ bad_branch g at branch
branch-alike f g at same None = refl
branch-alike f g at same (Some branch) = first_bad-alike (f at) (g at) same branch.children

module _ (r s : RecordsAt) (has other : ℕ → Bool) (bound : ℕ) (same : (n : ℕ) → n < bound → r n ≡ s n) (bodies : (at : Address) → number_of at < bound → has (file_at at) ≡ other (file_at at)) where
  within-alike : (m : ℕ) (naming at : Address) → number_of naming ≤ bound → bad_within m r has naming at ≡ bad_within m s other naming at
  within-alike zero naming at le = refl
  within-alike (suc m) naming at le = elim (cases_lt (number_of at) (number_of naming)) [
    | inl lt ↦
        let below : number_of at < bound = omega (arith, lt, le) in
        ap (λ (b : Bool). cond (ltb (number_of at) (number_of naming) && b) (bad_branch (bad_within m r has) at (branch_of (r (number_of at)))) (Some (place_of naming))) (bodies at below)
        ∙ ap (λ (o : Option RecordValue). cond (ltb (number_of at) (number_of naming) && other (file_at at)) (bad_branch (bad_within m r has) at (branch_of o)) (Some (place_of naming))) (same (number_of at) below)
        ∙ ap (λ (o : Option Place). cond (ltb (number_of at) (number_of naming) && other (file_at at)) o (Some (place_of naming)))
        (branch-alike (bad_within m r has) (bad_within m s other) at (λ child. within-alike m at child (omega (arith, below))) (branch_of (s (number_of at))))
    | inr ge ↦
        let no_less : ltb (number_of at) (number_of naming) ≡ false = le-ltb (number_of at) (number_of naming) ge in
        ap (λ (b : Bool). cond (b && has (file_at at)) (bad_branch (bad_within m r has) at (branch_of (r (number_of at)))) (Some (place_of naming))) no_less
        ∙ sym (ap (λ (b : Bool). cond (b && other (file_at at)) (bad_branch (bad_within m s other) at (branch_of (s (number_of at)))) (Some (place_of naming))) no_less)
  ]

  under-alike : (naming at : Address) → number_of naming ≤ bound → bad_under r has naming at ≡ bad_under s other naming at
  unfolding bad_under
  under-alike naming at le = within-alike (suc (number_of naming)) naming at le

  pub trees-alike : (root : Address) (trees : List Link) → number_of root ≤ bound → bad_trees r has root trees ≡ bad_trees s other root trees
  trees-alike root trees le = first_bad-alike (bad_under r has root) (bad_under s other root) (λ child. under-alike root child le) trees

  abbrev to_map : Option Pairs → Option TrieMap
  to_map = option_map (λ pairs. from_entries pairs)

  pub map-alike : (o : Option Address) → IfSome o (λ at. number_of at < bound) → trie_map r o ≡ trie_map s o
  map-alike None lt = refl
  map-alike (Some at) lt = ap to_map (map_at-agree r s (number_of at) (λ n le. same n (omega (arith, le, lt))))

-- the roots of whole trees stand below the root that lists them
pub lower-roots : (records : RecordsAt) (has : ℕ → Bool) (root : Address) (trees : List Link) → AllByRecursion (λ tree. IsWhole records has root tree.1) trees → (tree : ℕ) → IfSome (root_of trees tree) (λ at. number_of at < number_of root)
lower-roots records has root [] whole tree = tt
lower-roots records has root (first ∷ trees) whole tree =
    elim (eqb first.0 tree) as (λ b. IfSome (cond b (Some first.1) (root_of trees tree)) (λ at. number_of at < number_of root)) [ true ↦ whole.0.lower | false ↦ lower-roots records has root trees whole.1 tree ]

-- ---- one log file, in two sets of files

module _ (a b : Files) where
  -- the same was decided, and the same is stored
  abbrev pub Agree : Result Newest Place → Result Newest Place → Type 0
  Agree x y = (x ≡ y) × (stored_of a x ≡ stored_of b y)

  agree-cond : (t : Bool) (place : Place) (x y : Result Newest Place) → Agree x y → Agree (cond t (Err place) x) (cond t (Err place) y)
  agree-cond true place x y both = (refl, refl)
  agree-cond false place x y both = both

  pub agree-by : (x z y w : Result Newest Place) → x ≡ z → y ≡ w → Agree z w → Agree x y
  agree-by x z y w first second both = (first ∙ both.0 ∙ sym second, ap (stored_of a) first ∙ both.1 ∙ sym (ap (stored_of b) second))

  -- the same trees are the tables of the same rows
  tables-agree : (newest : Newest) (rows : Option RowsValue) → trees_under a newest ≡ trees_under b newest → Agree (check_tables newest rows) (check_tables newest rows)
  tables-agree newest None same = (refl, refl)
  tables-agree newest (Some rows) same =
      let holding : Trees → Option Stored = λ t. Some (record { commit = newest.commit; trees = t }) in
      (refl, ap holding same)

  pub trees-agree : (newest : Newest) → trees_under a newest ≡ trees_under b newest → Agree (check_trees a newest None) (check_trees b newest None)
  trees-agree newest same =
      let rows = rows_of (trees_under b newest) in
      agree-by (check_tables newest (rows_of (trees_under a newest))) (check_tables newest rows) (check_tables newest rows) (check_tables newest rows)
      (ap (λ (t : Trees). check_tables newest (rows_of t)) same) refl (tables-agree newest rows same)

  module _ (file end back : ℕ) (own : take end (bytes_of a (body_of file)) ≡ take end (bytes_of b (body_of file))) (there : has_body a file ≡ has_body b file)
      (beside : (other : ℕ) → other ≤ file + end / 2 ^ 64 → other ≢ file → get a (body_of other) ≡ get b (body_of other)) where
    abbrev root : Address
    root = root_address file end back

    body-same : (other : ℕ) → other ≤ file + end / 2 ^ 64 → bodies_upto a file end other ≡ bodies_upto b file end other
    body-same other le = elim (cases_eq other file) [
      | inl is ↦
          let here : eqb other file ≡ true = eq-eqb other file is in
          ap (λ (t : Bool). cond t (take end (bytes_of a (body_of other))) (bytes_of a (body_of other))) here
          ∙ ap (λ (k : ℕ). take end (bytes_of a (body_of k))) is
          ∙ own
          ∙ sym (ap (λ (k : ℕ). take end (bytes_of b (body_of k))) is)
          ∙ sym (ap (λ (t : Bool). cond t (take end (bytes_of b (body_of other))) (bytes_of b (body_of other))) here)
      | inr apart ↦ ap (λ (c : Content). cond (eqb other file) (take end (bytes_in c)) (bytes_in c)) (beside other le apart)
    ]

    record-same : (n : ℕ) → n < number_of root → records_upto a file end n ≡ records_upto b file end n
    record-same n lt = ap (λ (l : List ℕ). record_in (drop (n % 2 ^ 64) l)) (body-same (n / 2 ^ 64) (omega (arith, lt)))

    has-same : (at : Address) → number_of at < number_of root → has_body a (file_at at) ≡ has_body b (file_at at)
    has-same at lt = elim (cases_eq (file_at at) file) [
      | inl is ↦ subst (λ (k : ℕ). has_body a k ≡ has_body b k) (sym is) there
      | inr apart ↦ ap (λ (c : Content). is_some c) (beside (file_at at) (omega (arith, lt)) apart)
    ]

    abbrev named : ℕ → Rooted → Newest
    named mark rooted = record { file = file; marks = suc mark; end = end; back = back; commit = rooted.0; trees = rooted.1 }

    reached : (mark : ℕ) (rooted : Rooted) (bad : Option Place) → bad_trees (records_upto b file end) (has_body b) root rooted.1 ≡ bad → Agree (check_trees a (named mark rooted) bad) (check_trees b (named mark rooted) bad)
    reached mark rooted (Some place) is = (refl, refl)
    reached mark rooted None is =
        let whole = trees-whole (records_upto b file end) (has_body b) root rooted.1 is in
        trees-agree (named mark rooted) (fun_ext (λ tree.
        map-alike (records_upto a file end) (records_upto b file end) (has_body a) (has_body b) (number_of root) record-same has-same (root_of rooted.1 tree)
        (lower-roots (records_upto b file end) (has_body b) root rooted.1 whole tree)))

    root-agree : (mark : ℕ) (o : Option Rooted) → Agree (check_root a file mark end back o) (check_root b file mark end back o)
    root-agree mark None = (refl, refl)
    root-agree mark (Some rooted) =
        let here = bad_trees (records_upto a file end) (has_body a) root rooted.1 in
        let bad = bad_trees (records_upto b file end) (has_body b) root rooted.1 in
        agree-by (check_trees a (named mark rooted) here) (check_trees a (named mark rooted) bad) (check_trees b (named mark rooted) bad) (check_trees b (named mark rooted) bad)
        (ap (check_trees a (named mark rooted)) (trees-alike (records_upto a file end) (records_upto b file end) (has_body a) (has_body b) (number_of root) record-same has-same root rooted.1 (omega arith)))
        refl (reached mark rooted bad refl)

    pub back-agree : (mark : ℕ) → Agree (check_back a file mark end back) (check_back b file mark end back)
    back-agree mark =
        let goes : List ℕ → Result Newest Place = λ l. check_root a file mark end back (rooted_in (drop (end - back) l)) in
        let kept = take end (bytes_of b (body_of file)) in
        let there' = check_root b file mark end back (rooted_in (drop (end - back) kept)) in
        agree-cond (ltb end back) (record { file = ends_of file; at = 13 * mark }) (goes (take end (bytes_of a (body_of file)))) there'
        (agree-by (goes (take end (bytes_of a (body_of file)))) (goes kept) there' there' (ap goes own) refl (root-agree mark (rooted_in (drop (end - back) kept))))

    -- bodies that both come to the end
    pub long-agree : (mark : ℕ) → end ≤ length (bytes_of a (body_of file)) → end ≤ length (bytes_of b (body_of file)) → Agree (check_body a file mark end back) (check_body b file mark end back)
    long-agree mark a_long b_long =
        agree-by (check_body a file mark end back) (check_back a file mark end back) (check_body b file mark end back) (check_back b file mark end back)
        (cond-false (ltb (length (bytes_of a (body_of file))) end) _ _ (le-ltb (length (bytes_of a (body_of file))) end a_long))
        (cond-false (ltb (length (bytes_of b (body_of file))) end) _ _ (le-ltb (length (bytes_of b (body_of file))) end b_long))
        (back-agree mark)

    -- bodies of one length
    pub size-agree : (mark : ℕ) → length (bytes_of a (body_of file)) ≡ length (bytes_of b (body_of file)) → Agree (check_body a file mark end back) (check_body b file mark end back)
    size-agree mark size =
        let short : ℕ → Place = λ n. record { file = body_of file; at = n } in
        let goes : ℕ → Result Newest Place = λ n. cond (ltb n end) (Err (short n)) (check_back a file mark end back) in
        let n = length (bytes_of b (body_of file)) in
        agree-by (check_body a file mark end back) (goes n) (check_body b file mark end back) (check_body b file mark end back) (ap goes size) refl
        (agree-cond (ltb n end) (short n) (check_back a file mark end back) (check_back b file mark end back) (back-agree mark))

-- the check of a file by its last open mark
pub marked : (files : Files) (file mark end back : ℕ) → pred (open_count (bytes_of files (ends_of file))) ≡ mark → end_at (bytes_of files (ends_of file)) mark ≡ end → back_at (bytes_of files (ends_of file)) mark ≡ back
    → check_file files file ≡ check_body files file mark end back
marked files file mark end back mark_is end_is back_is =
    let ends = bytes_of files (ends_of file) in
    ap (λ (n : ℕ). check_body files file n (end_at ends n) (back_at ends n)) mark_is
    ∙ ap (λ (n : ℕ). check_body files file mark n (back_at ends mark)) end_is
    ∙ ap (λ (n : ℕ). check_body files file mark end n) back_is

-- ---- all bodies are the same, and of each used file the last open mark says the same

pub record SaysSame (a b : Files) (file : ℕ) : Type 0 where
  pub count : open_count (bytes_of a (ends_of file)) ≡ open_count (bytes_of b (ends_of file))
  pub numbers : numbers_at (bytes_of a (ends_of file)) (pred (open_count (bytes_of b (ends_of file)))) ≡ numbers_at (bytes_of b (ends_of file)) (pred (open_count (bytes_of b (ends_of file))))

module _ (a b : Files) (bodies : (file : ℕ) → get a (body_of file) ≡ get b (body_of file)) (used : (file : ℕ) → is_used a file ≡ is_used b file) (says : (file : ℕ) → is_used b file ≡ true → SaysSame a b file) where
  file-agree : (file : ℕ) → is_used b file ≡ true → Agree a b (check_file a file) (check_file b file)
  file-agree file is =
      let ends = bytes_of b (ends_of file) in
      let mark = pred (open_count ends) in
      let end = end_at ends mark in
      let back = back_at ends mark in
      let s = says file is in
      let body = bodies file in
      agree-by a b (check_file a file) (check_body a file mark end back) (check_file b file) (check_body b file mark end back)
      (marked a file mark end back (ap pred s.count) (ap (λ (l : List ℕ). from_be_bytes w64 (take 8 l)) s.numbers) (ap (λ (l : List ℕ). from_be_bytes w32 (drop 8 l)) s.numbers))
      refl
      (size-agree a b file end back (ap (λ (c : Content). take end (bytes_in c)) body) (ap (λ (c : Content). is_some c) body) (λ other le apart. bodies other) mark (ap (λ (c : Content). length (bytes_in c)) body))

  used-agree : (o : Option ℕ) → ((file : ℕ) → o ≡ Some file → is_used b file ≡ true) → Agree a b (check_used a o) (check_used b o)
  used-agree None is = (refl, refl)
  used-agree (Some file) is = file-agree file (is file refl)

  pub all-agree : Agree a b (check a) (check b)
  unfolding check
  all-agree =
      agree-by a b (check a) (check_used a (greatest_used b)) (check b) (check_used b (greatest_used b))
      (ap (check_used a) (greatest_alike a b used)) refl (used-agree (greatest_used b) (λ file is. (greatest_used_is b file is).0))

-- ---- one file is the greatest used one of both, and its last open mark says the same

pub record LastMark (files : Files) (file mark end back : ℕ) : Type 0 where
  pub greatest : greatest_used files ≡ Some file
  pub count : pred (open_count (bytes_of files (ends_of file))) ≡ mark
  pub end_is : end_at (bytes_of files (ends_of file)) mark ≡ end
  pub back_is : back_at (bytes_of files (ends_of file)) mark ≡ back
  pub has_body : is_some (get files (body_of file)) ≡ true
  pub long : end ≤ length (bytes_of files (body_of file))

pub check-marked : (files : Files) (file mark end back : ℕ) → LastMark files file mark end back → check files ≡ check_body files file mark end back
unfolding check
check-marked files file mark end back last = ap (check_used files) last.greatest ∙ marked files file mark end back last.count last.end_is last.back_is

-- ---- what was found

pub record Says (files : Files) (file mark end back : ℕ) (newest : Newest) : Type 0 where
  pub file_is : newest.file ≡ file
  pub marks_are : newest.marks ≡ suc mark
  pub end_is : newest.end ≡ end
  pub back_is : newest.back ≡ back
  pub long : end ≤ length (bytes_of files (body_of file))

pub not-err : (t : Bool) (place : Place) (next : Result Newest Place) (found : Newest) → cond t (Err place) next ≡ Ok found → (t ≡ false) × (next ≡ Ok found)
not-err true place next found e = absurd cc
not-err false place next found e = (refl, e)

root-says : (files : Files) (file mark end back : ℕ) (newest : Newest) → end ≤ length (bytes_of files (body_of file)) → (o : Option Rooted) → check_root files file mark end back o ≡ Ok newest → Says files file mark end back newest
root-says files file mark end back newest long None e = absurd cc
root-says files file mark end back newest long (Some rooted) e =
    let named : Newest = record { file = file; marks = suc mark; end = end; back = back; commit = rooted.0; trees = rooted.1 } in
    let is : newest ≡ named = sym (trees-ok files named newest (bad_trees (records_upto files file end) (has_body files) (root_address file end back) rooted.1) e).1 in
    record {
      file_is = ap (λ (n : Newest). n.file) is;
      marks_are = ap (λ (n : Newest). n.marks) is;
      end_is = ap (λ (n : Newest). n.end) is;
      back_is = ap (λ (n : Newest). n.back) is;
      long = long;
    }

body-says : (files : Files) (file mark end back : ℕ) (newest : Newest) → check_body files file mark end back ≡ Ok newest → Says files file mark end back newest
body-says files file mark end back newest e =
    let size = length (bytes_of files (body_of file)) in
    let first = not-err (ltb size end) _ (check_back files file mark end back) newest e in
    let second = not-err (ltb end back) _ (check_root files file mark end back (rooted_in (drop (end - back) (take end (bytes_of files (body_of file)))))) newest first.1 in
    let long : end ≤ size = ltb-false size end first.0 in
    root-says files file mark end back newest long (rooted_in (drop (end - back) (take end (bytes_of files (body_of file))))) second.1

pub record Found (newest : Newest) (files : Files) : Type 0 where
  pub greatest : greatest_used files ≡ Some newest.file
  pub says : Says files newest.file (pred (open_count (bytes_of files (ends_of newest.file)))) (end_at (bytes_of files (ends_of newest.file)) (pred (open_count (bytes_of files (ends_of newest.file))))) (back_at (bytes_of files (ends_of newest.file)) (pred (open_count (bytes_of files (ends_of newest.file))))) newest

found-by : (files : Files) (newest : Newest) (o : Option ℕ) → greatest_used files ≡ o → check_used files o ≡ Ok newest → 0 < newest.marks → Found newest files
found-by files newest None greatest e some =
    let same : no_newest ≡ newest = cc in
    let none : 0 ≡ newest.marks = ap (λ (n : Newest). n.marks) same in
    absurd (omega (arith, none, some))
found-by files newest (Some file) greatest e some =
    let ends = bytes_of files (ends_of file) in
    let s = body-says files file (pred (open_count ends)) (end_at ends (pred (open_count ends))) (back_at ends (pred (open_count ends))) newest e in
    let is : file ≡ newest.file = sym s.file_is in
    record {
      greatest = greatest ∙ ap (λ (n : ℕ). Some n) is;
      says = subst (λ (f : ℕ). Says files f (pred (open_count (bytes_of files (ends_of f)))) (end_at (bytes_of files (ends_of f)) (pred (open_count (bytes_of files (ends_of f))))) (back_at (bytes_of files (ends_of f)) (pred (open_count (bytes_of files (ends_of f))))) newest) is s;
    }

pub found-in : (files : Files) (newest : Newest) → 0 < newest.marks → check files ≡ Ok newest → Found newest files
unfolding check
found-in files newest some e = found-by files newest (greatest_used files) refl e some
