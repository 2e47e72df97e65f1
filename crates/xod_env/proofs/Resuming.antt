-- Where a root was found, an environment is at its commit.
use Rattle.std.proofs.Common.{◌≡◌, ◌<◌, ◌≤◌, ℕ, suc, ◌-◌, ◌/◌, ◌%◌, ◌^◌, Bool, true, false, cond, eqb, List, [], ◌∷◌, length, take, drop, Option, Some, None, Ok, is_some, IsSome, refl, sym, ◌∙◌, ap, subst, arith, inl, inr}
use Rattle.std.specs.Prelude.{nat_lt}
use Rattle.std.proofs.Math.Path.{fun_ext}
use Rattle.std.specs.FinMap.{find, get}
use Rattle.std.specs.List.{AllByRecursion}
use Rattle.std.specs.Ordering.{eq_by_cmp, nat_cmp}
use Rattle.std.proofs.lemmas.Bool.{cases_eq, eq-eqb, ltb-true, ne_eqb}
use Rattle.std.proofs.lemmas.List.{length-drop, take_all}
use Rattle.xod_base.specs.Views.{Trees}
use Rattle.xod_block.specs.declared.address.Address.{Address}
use Rattle.xod_block.specs.Addresses.{number_of}
use Rattle.xod_block.specs.Maps.{RecordsAt}
use Rattle.xod_block.specs.Reading.{record_in}
use Rattle.xod_block.specs.Records.{Link, RecordValue}
use Rattle.xod_log.specs.Ends.{body_of}
use Rattle.xod_log.specs.Standing.{Stands, last_file, resumed_log}
use Rattle.xod_recover.specs.declared.newest.Found.{Found}
use Rattle.xod_recover.specs.Check.{check, records_upto, root_address, trees_under}
use Rattle.xod_recover.specs.Found.{EndsWithRoot, IsRooted, newest_of}
use Rattle.xod_recover.specs.Images.{UnusedFrom}
use Rattle.xod_recover.specs.Newest.{IsNewest}
use Rattle.xod_recover.proofs.CallerLemmas.{check-newest, stored-maps}
use Rattle.xod_tables.specs.Reading.{rows_of}
use Rattle.xod_trie.specs.Damage.{AtRoot, Below, IsReached}
use Rattle.xod_trie.specs.Tries.{trie_map}
use Rattle.xod_volume.specs.Files.{Content, Files, bytes_in, bytes_of}
use Rattle.xod_env.specs.Envs.{IsAt, env_records, env_trees}
use Rattle.xod_env.proofs.Reaching.{body-up-to, map-kept}
use Rattle.xod_env.proofs.Sealed.{sealed-last}
use Rattle.xod_env.proofs.Storing.{get-test, root-get}

-- ---- links

chosen-each : (P : Address → Type 0) (own : Bool) (first at : Address) (rest : Option Address) → P first → (rest ≡ Some at → P at) → cond own (Some first) rest ≡ Some at → P at
chosen-each P true first at rest here later is = let same : first ≡ at = cc is in subst P same here
chosen-each P false first at rest here later is = later is

found-each : (P : Address → Type 0) (links : List Link) (tree : ℕ) (at : Address) → AllByRecursion (λ link. P link.1) links → find nat_cmp tree links ≡ Some at → P at
found-each P [] tree at all is = absurd cc
found-each P (link ∷ links) tree at all is = chosen-each P (eq_by_cmp nat_cmp tree link.0) link.1 at (find nat_cmp tree links) all.0 (found-each P links tree at all.1) is

-- nothing is reached without a root
unreached : (records : RecordsAt) (at : Address) → IsReached records None at → ⊥
unreached records _ (AtRoot at is) = cc is
unreached records _ (Below at child reached names) = unreached records at reached

-- a record has bytes
no_root : (commit : ℕ) (bytes : List ℕ) (item : List ℕ) → bytes ≡ 3 ∷ item → 0 < length bytes
no_root commit bytes item is = let long = ap length is in omega (arith, long)

module _ (found : Found) (files : Files) (images : Files → Type 0) (target : ℕ)
    (decided : check files ≡ Ok (newest_of found)) (some : 0 < found.marks) (rooted : IsRooted found) (root : EndsWithRoot found files)
    (top : UnusedFrom (suc found.file) files) (file_fits : found.file ≤ last_file) (back_fits : found.back < 2 ^ 32)
    (stands : Stands (resumed_log found.file found.end found.marks found.back target) files images) where
  abbrev R : RecordsAt
  R = records_upto files found.file found.end

  abbrev env : RecordsAt
  env = env_records found.file files

  abbrev place : Address
  place = root_address found.file found.end found.back

  abbrev B : List ℕ
  B = bytes_of files (body_of found.file)

  -- ---- what was found is the newest root

  newest : IsNewest files (newest_of found)
  newest = elim (check-newest files (newest_of found) decided) [
    | inl none ↦ let marks = ap (λ n. n.marks) none.1 in absurd (omega (arith, marks, some))
    | inr is ↦ is
  ]

  -- the body is not empty
  more_than : 0 < found.end
  more_than =
      let long = no_root found.commit (drop (found.end - found.back) B) _ root.spelled.spelled in
      let size : length (drop (found.end - found.back) B) ≡ length B - (found.end - found.back) = length-drop (found.end - found.back) B in
      omega (arith, long, size, root.long)

  -- ---- the records that count are those of the bodies

  same_body : (other : ℕ) → cond (eqb other found.file) (take found.end (bytes_of files (body_of other))) (bytes_of files (body_of other)) ≡ bytes_of files (body_of other)
  same_body other = elim (cases_eq other found.file) [
    | inl same ↦
        ap (λ (t : Bool). cond t (take found.end (bytes_of files (body_of other))) (bytes_of files (body_of other))) (eq-eqb other found.file same)
        ∙ take_all found.end (bytes_of files (body_of other)) (let long = ap (λ (k : ℕ). length (bytes_of files (body_of k))) same in omega (arith, long, root.long))
    | inr apart ↦ ap (λ (t : Bool). cond t (take found.end (bytes_of files (body_of other))) (bytes_of files (body_of other))) (ne_eqb other found.file apart)
  ]

  more : (n : ℕ) (item : RecordValue) → n < number_of place → R n ≡ Some item → env n ≡ Some item
  more n item lt is =
      let file = n / 2 ^ 64 in
      let fits = rooted.fits in
      let le : file ≤ found.file = omega (arith, lt, fits) in
      ap (λ (c : Content). record_in (drop (n % 2 ^ 64) (bytes_in c))) (body-up-to found.file file files le)
      ∙ sym (ap (λ (l : List ℕ). record_in (drop (n % 2 ^ 64) l)) (same_body file))
      ∙ is

  lower : (tree : ℕ) (at : Address) → get found.roots tree ≡ Some at → number_of at < number_of place
  lower tree at is = ltb-true (number_of at) (number_of place) (get-test (λ (at : Address). nat_lt (number_of at) (number_of place)) found.roots tree at rooted.below is)

  only : (tree : ℕ) (at : Address) → get found.roots tree ≡ Some at → (n : ℕ) (item : RecordValue) → n ≤ number_of at → R n ≡ Some item → env n ≡ Some item
  only tree at is n item le has = let lt = lower tree at is in more n item (omega (arith, le, lt)) has

  had : (tree : ℕ) → IsSome (trie_map R (get found.roots tree))
  had tree = subst (λ (o : Option Address). IsSome (trie_map R o)) (root-get found.roots tree) (stored-maps files (newest_of found) decided tree)

  same-tree : (tree : ℕ) → trees_under files (newest_of found) tree ≡ env_trees found.file files found.roots tree
  same-tree tree = ap (trie_map R) (root-get found.roots tree) ∙ sym (map-kept R env (get found.roots tree) (only tree) (had tree))

  tables : is_some (rows_of (env_trees found.file files found.roots)) ≡ true
  tables = ap (λ (t : Trees). is_some (rows_of t)) (sym (fun_ext same-tree)) ∙ newest.tables

  maps : (tree : ℕ) → is_some (env_trees found.file files found.roots tree) ≡ true
  maps tree = ap is_some (map-kept R env (get found.roots tree) (only tree) (had tree)) ∙ had tree

  -- ---- where the environment is

  pub resumed_at : IsAt (resumed_log found.file found.end found.marks found.back target) found.roots found.commit files images
  resumed_at = record {
    stands = stands;
    file_fits = file_fits;
    end_fits = rooted.fits;
    back_fits = back_fits;
    newest = record {
      no_commit = λ e. absurd (let lt = more_than in omega (arith, lt, e));
      no_roots = λ e. absurd (let lt = more_than in omega (arith, lt, e));
      within = rooted.within;
      fits = root.spelled.fits;
      root = λ lt. root.spelled.spelled;
    };
    maps = maps;
    tables = tables;
    first_file = λ e. absurd (let lt = more_than in omega (arith, lt, e));
    first_mark = λ e. absurd (let lt = more_than in omega (arith, lt, e));
    first_seal = λ e. refl;
    top = top;
    reaches = sealed-last (resumed_log found.file found.end found.marks found.back target) rooted.fits back_fits files images stands refl;
  }
