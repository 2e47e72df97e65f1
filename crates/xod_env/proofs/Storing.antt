-- When an image stores what another does, and when it stores the newest commit.
use Rattle.std.proofs.Common.{◌≡◌, ◌<◌, ◌≤◌, ◌⊎◌, ℕ, pred, ◌+◌, ◌/◌, ◌^◌, Bool, true, false, ◌&&◌, cond, eqb, List, [], ◌∷◌, length, take, drop, Option, Some, None, Result, refl, sym, ◌∙◌, ap, subst, arith, inl, inr}
use mathlib.Core.Logic.{◌≢◌}
use Rattle.std.specs.Prelude.{T}
use Rattle.std.specs.Cmp.{nat_cmp_is}
use Rattle.std.specs.FinMap.{entries, entries_sorted, find, get, get-entries, is_sorted}
use Rattle.std.specs.FinMap.Entries.{below_all}
use Rattle.std.specs.Int.{w64, w32, from_be_bytes}
use Rattle.std.specs.List.{AllByRecursion, list_all}
use Rattle.std.specs.Ordering.{nat_cmp, eq_by_cmp, is_lt}
use Rattle.std.specs.declared.cmp.Ordering.{Ordering}
use Rattle.std.specs.declared.cmp.Ordering.TheVariants.{Equal}
use Rattle.std.proofs.lemmas.Bool.Decides.{nat_tests}
use Rattle.std.proofs.lemmas.Bool.{and_parts, eq-eqb, ne_eqb}
use Rattle.xod_base.specs.declared.causes.Place.{Place}
use Rattle.xod_block.specs.declared.address.Address.{Address}
use Rattle.xod_block.specs.Records.{Link}
use Rattle.xod_volume.specs.Files.{Files, Content, bytes_in, bytes_of}
use Rattle.xod_log.specs.Ends.{numbers_at, end_at, back_at, body_of, ends_of}
use Rattle.xod_recover.specs.Check.{Newest, check, check_body, check_file, check_used, has_body, root_of}
use Rattle.xod_recover.specs.Opened.{open_count, is_used, greatest_used}
use Rattle.xod_recover.specs.Stores.{stored_in, stored_of}
use Rattle.xod_recover.specs.Tails.{Covers}
use Rattle.xod_recover.proofs.CallerLemmas.{agree-by, marked, long-agree, size-agree, greatest_alike}
use Rattle.xod_recover.specs.Walks.{first_bad, or_else}
use Rattle.xod_root.specs.Roots.{Roots}
use Rattle.xod_env.specs.Envs.{last_end}

-- ---- the same is stored

-- The last open mark of a log file says the same in two sets of files, and as much of the bodies is the same.
pub record KeepsFile (a b : Files) (file : ℕ) : Type 0 where
  pub count : open_count (bytes_of a (ends_of file)) ≡ open_count (bytes_of b (ends_of file))
  pub says : numbers_at (bytes_of a (ends_of file)) (pred (open_count (bytes_of b (ends_of file)))) ≡ numbers_at (bytes_of b (ends_of file)) (pred (open_count (bytes_of b (ends_of file))))
  pub fits : last_end file b < 2 ^ 64
  pub there : has_body a file ≡ has_body b file
  pub body : (get a (body_of file) ≡ get b (body_of file)) ⊎ (Covers (bytes_of b (body_of file)) (bytes_of a (body_of file)) (last_end file b) × (last_end file b ≤ length (bytes_of b (body_of file))))
  pub below : (other : ℕ) → other < file → get a (body_of other) ≡ get b (body_of other)

module _ (a b : Files) (used : (file : ℕ) → is_used a file ≡ is_used b file) (keeps : (file : ℕ) → greatest_used b ≡ Some file → KeepsFile a b file) where
  abbrev Same : Result Newest Place → Result Newest Place → Type 0
  Same x y = (x ≡ y) × (stored_of a x ≡ stored_of b y)

  file-same : (file : ℕ) → KeepsFile a b file → Same (check_file a file) (check_file b file)
  file-same file k =
      let ends = bytes_of b (ends_of file) in
      let mark = pred (open_count ends) in
      let end = end_at ends mark in
      let back = back_at ends mark in
      let fits : end < 2 ^ 64 = k.fits in
      let beside : (other : ℕ) → other ≤ file + end / 2 ^ 64 → other ≢ file → get a (body_of other) ≡ get b (body_of other) =
      λ other le apart. k.below other (omega (arith, le, apart, fits)) in
      agree-by a b (check_file a file) (check_body a file mark end back) (check_file b file) (check_body b file mark end back)
      (marked a file mark end back (ap pred k.count) (ap (λ (l : List ℕ). from_be_bytes w64 (take 8 l)) k.says) (ap (λ (l : List ℕ). from_be_bytes w32 (drop 8 l)) k.says))
      refl
      (elim k.body [
        | inl same ↦ size-agree a b file end back (ap (λ (c : Content). take end (bytes_in c)) same) k.there beside mark (ap (λ (c : Content). length (bytes_in c)) same)
        | inr both ↦ long-agree a b file end back both.0.1 k.there beside mark both.0.0 both.1
      ])

  used-same : (o : Option ℕ) → ((file : ℕ) → o ≡ Some file → KeepsFile a b file) → Same (check_used a o) (check_used b o)
  used-same None k = (refl, refl)
  used-same (Some file) k = file-same file (k file refl)

  pub stored-same : stored_in a ≡ stored_in b
  unfolding check
  stored-same = (agree-by a b (check a) (check_used a (greatest_used b)) (check b) (check_used b (greatest_used b))
      (ap (check_used a) (greatest_alike a b used)) refl (used-same (greatest_used b) keeps)).1

-- ---- the roots of trees, as a list and as a map

same_test : (q y : ℕ) → eqb y q ≡ eq_by_cmp nat_cmp q y
same_test q y = grind (arith, nat_tests)

root-find : (trees : List Link) (tree : ℕ) → root_of trees tree ≡ find nat_cmp tree trees
root-find [] tree = refl
root-find (link ∷ trees) tree =
    ap (λ (o : Option Address). cond (eqb link.0 tree) (Some link.1) o) (root-find trees tree)
    ∙ ap (λ (b : Bool). cond b (Some link.1) (find nat_cmp tree trees)) (same_test tree link.0)

pub root-get : (roots : Roots) (tree : ℕ) → root_of (entries roots) tree ≡ get roots tree
root-get roots tree = root-find (entries roots) tree ∙ sym (get-entries roots tree)

-- each link of the list is found
found-behind : (x : ℕ) (at : Address) (all links : List Link) → T (below_all nat_cmp x links) → AllByRecursion (λ link. find nat_cmp link.0 all ≡ Some link.1) links
    → AllByRecursion (λ link. find nat_cmp link.0 ((x, at) ∷ all) ≡ Some link.1) links
found-behind x at all [] below found = tt
found-behind x at all (link ∷ links) below found =
    let parts = both-parts (is_lt (nat_cmp x link.0)) (below_all nat_cmp x links) below in
    let other : eq_by_cmp nat_cmp link.0 x ≡ false = sym (same_test link.0 x) ∙ ne_eqb x link.0 (λ e. not-below x link.0 e parts.0) in
    (ap (λ (b : Bool). cond b (Some at) (find nat_cmp link.0 all)) other ∙ found.0, found-behind x at all links parts.1 found.1)
  where
    both-parts : (a b : Bool) → T (a && b) → T a × T b
    both-parts true b h = (tt, h)
    both-parts false b h = absurd h

    tie : (x : ℕ) → T (is_lt (nat_cmp x x)) → ⊥
    tie x h = subst (λ (r : Ordering). T (is_lt r)) (sym (nat_cmp_is x x Equal refl)) h

    not-below : (x y : ℕ) → x ≡ y → T (is_lt (nat_cmp x y)) → ⊥
    not-below x y e h = tie x (subst (λ (k : ℕ). T (is_lt (nat_cmp x k))) (sym e) h)

found-each : (links : List Link) → T (is_sorted nat_cmp links) → AllByRecursion (λ link. find nat_cmp link.0 links ≡ Some link.1) links
found-each [] sorted = tt
found-each (link ∷ links) sorted =
    let parts = both-parts (below_all nat_cmp link.0 links) (is_sorted nat_cmp links) sorted in
    let here : eq_by_cmp nat_cmp link.0 link.0 ≡ true = sym (same_test link.0 link.0) ∙ eq-eqb link.0 link.0 refl in
    (ap (λ (b : Bool). cond b (Some link.1) (find nat_cmp link.0 links)) here, found-behind link.0 link.1 links links parts.0 (found-each links parts.1))
  where
    both-parts : (a b : Bool) → T (a && b) → T a × T b
    both-parts true b h = (tt, h)
    both-parts false b h = absurd h

pub listed-get : (roots : Roots) → AllByRecursion (λ link. get roots link.0 ≡ Some link.1) (entries roots)
listed-get roots = each-get (entries roots) (found-each (entries roots) (entries_sorted roots))
  where
    each-get : (links : List Link) → AllByRecursion (λ link. find nat_cmp link.0 (entries roots) ≡ Some link.1) links → AllByRecursion (λ link. get roots link.0 ≡ Some link.1) links
    each-get [] found = tt
    each-get (link ∷ links) found = (get-entries roots link.0 ∙ found.0, each-get links found.1)

-- nothing is bad in a list of which nothing is bad in each
pub none-listed : (bad : Address → Option Place) (P : Link → Type 0) (test : Link → Bool) → ((link : Link) → P link → test link ≡ true → bad link.1 ≡ None)
    → (links : List Link) → AllByRecursion P links → list_all test links ≡ true → first_bad bad links ≡ None
none-listed bad P test fine [] each all = refl
none-listed bad P test fine (link ∷ links) each all =
    let parts = and_parts (test link) (list_all test links) all in
    ap (λ (o : Option Place). or_else o (first_bad bad links)) (fine link each.0 parts.0) ∙ none-listed bad P test fine links each.1 parts.1

-- what all links pass, each one passes that is found
chosen-test : (test : Address → Bool) (own : Bool) (first at : Address) (rest : Option Address) → test first ≡ true → (rest ≡ Some at → test at ≡ true) → cond own (Some first) rest ≡ Some at → test at ≡ true
chosen-test test true first at rest passed later is = let same : first ≡ at = cc is in subst (λ (a : Address). test a ≡ true) same passed
chosen-test test false first at rest passed later is = later is

found-test : (test : Address → Bool) (links : List Link) (tree : ℕ) (at : Address) → list_all (λ (link : Link). test link.1) links ≡ true → find nat_cmp tree links ≡ Some at → test at ≡ true
found-test test [] tree at all is = absurd cc
found-test test (link ∷ links) tree at all is =
    let parts = and_parts (test link.1) (list_all (λ (link : Link). test link.1) links) all in
    chosen-test test (eq_by_cmp nat_cmp tree link.0) link.1 at (find nat_cmp tree links) parts.0 (found-test test links tree at parts.1) is

pub get-test : (test : Address → Bool) (roots : Roots) (tree : ℕ) (at : Address) → list_all (λ (link : Link). test link.1) (entries roots) ≡ true → get roots tree ≡ Some at → test at ≡ true
get-test test roots tree at all is = found-test test (entries roots) tree at all (sym (get-entries roots tree) ∙ is)
