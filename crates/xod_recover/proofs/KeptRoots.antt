-- What was found in good files is found where the bodies that it reaches are the same, and others may have come.
use Rattle.std.proofs.Common.{◌≡◌, ◌<◌, ◌≤◌, ℕ, zero, suc, ◌+◌, ◌-◌, ◌/◌, ◌%◌, ◌^◌, Bool, true, false, ◌&&◌, cond, eqb, ltb, List, [], ◌∷◌, length, take, drop, Option, Some, None, Result, Ok, is_some, refl, sym, ◌∙◌, ap, subst, arith, inl, inr}
use Rattle.std.specs.Prelude.{IfSome, IsSome}
use mathlib.Core.Logic.{◌≢◌}
use Rattle.std.specs.FinMap.{get, from_entries}
use Rattle.std.specs.List.{AllByRecursion}
use Rattle.std.specs.Option.{option_map}
use Rattle.std.proofs.Math.Path.{fun_ext}
use Rattle.std.proofs.lemmas.Bool.{cases_eq, cond-false, eq-eqb, ne_eqb, le-ltb, ltb-true, and_parts}
use Rattle.xod_base.specs.declared.causes.Place.{Place}
use Rattle.xod_volume.specs.Files.{Files, Content, bytes_in, bytes_of}
use Rattle.xod_block.specs.declared.address.Address.{Address}
use Rattle.xod_block.specs.Addresses.{number_of}
use Rattle.xod_block.specs.Fetches.{place_of}
use Rattle.xod_block.specs.Maps.{RecordsAt, Pairs, map_at}
use Rattle.xod_block.specs.Reading.{record_in}
use Rattle.xod_block.specs.Records.{Link, RecordValue}
use Rattle.xod_block.proofs.CallerLemmas.{map_at-more, record_in-past}
use Rattle.xod_trie.specs.declared.branch.Branch.{Branch}
use Rattle.xod_trie.specs.Branches.{branch_of}
use Rattle.xod_trie.specs.Tries.{TrieMap, trie_map}
use Rattle.xod_log.specs.Ends.{body_of}
use Rattle.xod_recover.specs.Check.{Newest, Rooted, bodies_upto, records_upto, has_body, rooted_in, root_address, root_of, check_trees, check_root, check_back, check}
use Rattle.xod_recover.specs.Walks.{file_at, or_else, first_bad, bad_branch, bad_within, bad_under, bad_trees}
use Rattle.xod_recover.specs.Whole.{IsWhole}
use Rattle.xod_recover.proofs.Alike.{Agree, agree-by, LastMark, check-marked, not-err, trees-agree}
use Rattle.xod_recover.proofs.Tabling.{trees-ok}
use Rattle.xod_recover.proofs.Wholes.{trees-whole}

-- ---- more records, and nothing that was fine is bad

or-none : (a b : Option Place) → or_else a b ≡ None → (a ≡ None) × (b ≡ None)
or-none None b e = (refl, e)
or-none (Some place) b e = absurd cc

cond-none : (b : Bool) (o : Option Place) (place : Place) → cond b o (Some place) ≡ None → (b ≡ true) × (o ≡ None)
cond-none true o place e = (refl, e)
cond-none false o place e = absurd cc

first_bad-kept : (f g : Address → Option Place) → ((child : Address) → f child ≡ None → g child ≡ None) → (children : List Link) → first_bad f children ≡ None → first_bad g children ≡ None
first_bad-kept f g kept [] none = refl
first_bad-kept f g kept (child ∷ children) none =
    let parts = or-none (f child.1) (first_bad f children) none in
    ap (λ (o : Option Place). or_else o (first_bad g children)) (kept child.1 parts.0) ∙ first_bad-kept f g kept children parts.1

branch-kept : (f g : Address → Address → Option Place) (at : Address) → ((child : Address) → f at child ≡ None → g at child ≡ None) → (o : Option Branch) → bad_branch f at o ≡ None → bad_branch g at o ≡ None
branch-kept f g at kept None none = absurd cc
branch-kept f g at kept (Some branch) none = first_bad-kept (f at) (g at) kept branch.children none

record-kept : (f g : Address → Address → Option Place) (at : Address) → ((child : Address) → f at child ≡ None → g at child ≡ None) → (o p : Option RecordValue)
    → ((item : RecordValue) → o ≡ Some item → p ≡ Some item) → bad_branch f at (branch_of o) ≡ None → bad_branch g at (branch_of p) ≡ None
record-kept f g at kept None p more none = absurd cc
record-kept f g at kept (Some item) p more none =
    ap (λ (q : Option RecordValue). bad_branch g at (branch_of q)) (more item refl) ∙ branch-kept f g at kept (branch_of (Some item)) none

module _ (r s : RecordsAt) (has other : ℕ → Bool) (bound : ℕ) (more : (n : ℕ) (item : RecordValue) → n < bound → r n ≡ Some item → s n ≡ Some item)
    (bodies : (at : Address) → number_of at < bound → has (file_at at) ≡ true → other (file_at at) ≡ true) where
  within-kept : (m : ℕ) (naming at : Address) → number_of naming ≤ bound → bad_within m r has naming at ≡ None → bad_within m s other naming at ≡ None
  within-kept zero naming at le none = none
  within-kept (suc m) naming at le none =
      let c = cond-none (ltb (number_of at) (number_of naming) && has (file_at at)) (bad_branch (bad_within m r has) at (branch_of (r (number_of at)))) (place_of naming) none in
      let p = and_parts (ltb (number_of at) (number_of naming)) (has (file_at at)) c.0 in
      let lt : number_of at < number_of naming = ltb-true (number_of at) (number_of naming) p.0 in
      let below : number_of at < bound = omega (arith, lt, le) in
      let here = bad_branch (bad_within m s other) at (branch_of (s (number_of at))) in
      ap (λ (b : Bool). cond (b && other (file_at at)) here (Some (place_of naming))) p.0
      ∙ ap (λ (b : Bool). cond b here (Some (place_of naming))) (bodies at below p.1)
      ∙ record-kept (bad_within m r has) (bad_within m s other) at (λ child. within-kept m at child (omega (arith, below))) (r (number_of at)) (s (number_of at)) (λ item. more (number_of at) item below) c.1

  under-kept : (naming at : Address) → number_of naming ≤ bound → bad_under r has naming at ≡ None → bad_under s other naming at ≡ None
  unfolding bad_under
  under-kept naming at le = within-kept (suc (number_of naming)) naming at le

  pub trees-kept : (root : Address) (trees : List Link) → number_of root ≤ bound → bad_trees r has root trees ≡ None → bad_trees s other root trees ≡ None
  trees-kept root trees le = first_bad-kept (bad_under r has root) (bad_under s other root) (λ child. under-kept root child le) trees

  abbrev to_map : Option Pairs → Option TrieMap
  to_map = option_map (λ pairs. from_entries pairs)

  pub map-kept : (o : Option Address) → IfSome o (λ at. (number_of at < bound) × IsSome (map_at r (number_of at))) → trie_map s o ≡ trie_map r o
  map-kept None whole = refl
  map-kept (Some at) whole = ap to_map (map_at-more r s (number_of at) (λ below item le is. more below item (omega (arith, le, whole.0)) is) whole.1)

-- the roots of whole trees
pub whole-roots : (records : RecordsAt) (has : ℕ → Bool) (root : Address) (trees : List Link) → AllByRecursion (λ tree. IsWhole records has root tree.1) trees → (tree : ℕ)
    → IfSome (root_of trees tree) (λ at. (number_of at < number_of root) × IsSome (map_at records (number_of at)))
whole-roots records has root [] whole tree = tt
whole-roots records has root (first ∷ trees) whole tree =
    elim (eqb first.0 tree) as (λ b. IfSome (cond b (Some first.1) (root_of trees tree)) (λ at. (number_of at < number_of root) × IsSome (map_at records (number_of at)))) [
      | true ↦ (whole.0.lower, whole.0.map)
      | false ↦ whole-roots records has root trees whole.1 tree
    ]

-- ---- the steps of the check

-- a body that is there is the same, and one that is not has no record
content-more : (a b : Content) → (is_some b ≡ true → a ≡ b) → (at : ℕ) (item : RecordValue) → record_in (drop at (bytes_in b)) ≡ Some item → record_in (drop at (bytes_in a)) ≡ Some item
content-more a None same at item is =
    let none : record_in (drop at []) ≡ None = record_in-past at [] (omega arith) in
    absurd cc
content-more a (Some bytes) same at item is = ap (λ (c : Content). record_in (drop at (bytes_in c))) (same refl) ∙ is

module _ (a b : Files) (file end back : ℕ) (own : take end (bytes_of a (body_of file)) ≡ take end (bytes_of b (body_of file))) (there : has_body a file ≡ true)
    (beside : (other : ℕ) → other ≤ file + end / 2 ^ 64 → other ≢ file → is_some (get b (body_of other)) ≡ true → get a (body_of other) ≡ get b (body_of other)) where
  abbrev root : Address
  root = root_address file end back

  body-more : (other at : ℕ) (item : RecordValue) → other ≤ file + end / 2 ^ 64 → record_in (drop at (bodies_upto b file end other)) ≡ Some item → record_in (drop at (bodies_upto a file end other)) ≡ Some item
  body-more other at item le is = elim (cases_eq other file) [
    | inl same ↦
        let here : eqb other file ≡ true = eq-eqb other file same in
        let front : Files → ℕ → List ℕ = λ f k. take end (bytes_of f (body_of k)) in
        ap (λ (t : Bool). record_in (drop at (cond t (front a other) (bytes_of a (body_of other))))) here
        ∙ ap (λ (k : ℕ). record_in (drop at (front a k))) same
        ∙ ap (λ (l : List ℕ). record_in (drop at l)) own
        ∙ sym (ap (λ (k : ℕ). record_in (drop at (front b k))) same)
        ∙ sym (ap (λ (t : Bool). record_in (drop at (cond t (front b other) (bytes_of b (body_of other))))) here)
        ∙ is
    | inr apart ↦
        let away : eqb other file ≡ false = ne_eqb other file apart in
        ap (λ (t : Bool). record_in (drop at (cond t (take end (bytes_of a (body_of other))) (bytes_of a (body_of other))))) away
        ∙ content-more (get a (body_of other)) (get b (body_of other)) (beside other le apart) at item
        (sym (ap (λ (t : Bool). record_in (drop at (cond t (take end (bytes_of b (body_of other))) (bytes_of b (body_of other))))) away) ∙ is)
  ]

  record-more : (n : ℕ) (item : RecordValue) → n < number_of root → records_upto b file end n ≡ Some item → records_upto a file end n ≡ Some item
  record-more n item lt is = body-more (n / 2 ^ 64) (n % 2 ^ 64) item (omega (arith, lt)) is

  has-more : (at : Address) → number_of at < number_of root → has_body b (file_at at) ≡ true → has_body a (file_at at) ≡ true
  has-more at lt has = elim (cases_eq (file_at at) file) [
    | inl is ↦ subst (λ (k : ℕ). has_body a k ≡ true) (sym is) there
    | inr apart ↦ ap (λ (c : Content). is_some c) (beside (file_at at) (omega (arith, lt)) apart has) ∙ has
  ]

  abbrev named : ℕ → Rooted → Newest
  named mark rooted = record { file = file; marks = suc mark; end = end; back = back; commit = rooted.0; trees = rooted.1 }

  trees-same : (mark : ℕ) (rooted : Rooted) → bad_trees (records_upto b file end) (has_body b) root rooted.1 ≡ None → Agree a b (check_trees a (named mark rooted) None) (check_trees b (named mark rooted) None)
  trees-same mark rooted none =
      let whole = trees-whole (records_upto b file end) (has_body b) root rooted.1 none in
      trees-agree a b (named mark rooted) (fun_ext (λ tree.
      map-kept (records_upto b file end) (records_upto a file end) (has_body b) (has_body a) (number_of root) record-more has-more (root_of rooted.1 tree)
      (whole-roots (records_upto b file end) (has_body b) root rooted.1 whole tree)))

  root-kept : (mark : ℕ) (newest : Newest) (o : Option Rooted) → check_root b file mark end back o ≡ Ok newest → Agree a b (check_root a file mark end back o) (check_root b file mark end back o)
  root-kept mark newest None is = absurd cc
  root-kept mark newest (Some rooted) is =
      let here = bad_trees (records_upto a file end) (has_body a) root rooted.1 in
      let bad = bad_trees (records_upto b file end) (has_body b) root rooted.1 in
      let none = (trees-ok b (named mark rooted) newest bad is).0 in
      agree-by a b (check_trees a (named mark rooted) here) (check_trees a (named mark rooted) None) (check_trees b (named mark rooted) bad) (check_trees b (named mark rooted) None)
      (ap (check_trees a (named mark rooted)) (trees-kept (records_upto b file end) (records_upto a file end) (has_body b) (has_body a) (number_of root) record-more has-more root rooted.1 (omega arith) none))
      (ap (check_trees b (named mark rooted)) none)
      (trees-same mark rooted none)

  pub back-kept : (mark : ℕ) (newest : Newest) → check_back b file mark end back ≡ Ok newest → Agree a b (check_back a file mark end back) (check_back b file mark end back)
  back-kept mark newest is =
      let goes : Files → List ℕ → Result Newest Place = λ f l. check_root f file mark end back (rooted_in (drop (end - back) l)) in
      let kept = take end (bytes_of b (body_of file)) in
      let step = not-err (ltb end back) _ (goes b kept) newest is in
      agree-by a b (check_back a file mark end back) (goes a kept) (check_back b file mark end back) (goes b kept)
      (cond-false (ltb end back) _ _ step.0 ∙ ap (goes a) own)
      (cond-false (ltb end back) _ _ step.0)
      (root-kept mark newest (rooted_in (drop (end - back) kept)) step.1)

-- One file is the greatest used one of both, and its last open mark says the same: what was found in the one is found in
-- the other.
pub last-kept : (a b : Files) (file mark end back : ℕ) (newest : Newest) → LastMark a file mark end back → LastMark b file mark end back → check b ≡ Ok newest
    → take end (bytes_of a (body_of file)) ≡ take end (bytes_of b (body_of file))
    → ((other : ℕ) → other ≤ file + end / 2 ^ 64 → other ≢ file → is_some (get b (body_of other)) ≡ true → get a (body_of other) ≡ get b (body_of other)) → Agree a b (check a) (check b)
last-kept a b file mark end back newest first second found own beside =
    let goes : (f : Files) → LastMark f file mark end back → check f ≡ check_back f file mark end back = λ f last.
    check-marked f file mark end back last ∙ cond-false (ltb (length (bytes_of f (body_of file))) end) _ _ (le-ltb (length (bytes_of f (body_of file))) end last.long) in
    agree-by a b (check a) (check_back a file mark end back) (check b) (check_back b file mark end back) (goes a first) (goes b second)
    (back-kept a b file end back own first.has_body beside mark newest (sym (goes b second) ∙ found))
