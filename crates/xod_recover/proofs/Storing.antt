-- Good files have a map for each tree, and rows.
use Rattle.std.proofs.Common.{◌≡◌, ◌-◌, ℕ, suc, pred, sym, ap, is_some, inl, inr, Bool, true, false, cond, eqb, ltb, List, [], ◌∷◌, length, take, drop, Option, Some, None, Result, Ok, Err, refl, subst}
use Rattle.std.specs.Prelude.{IsSome, option_and_then}
use Rattle.std.specs.List.{AllByRecursion}
use Rattle.xod_base.specs.declared.causes.Place.{Place}
use Rattle.xod_base.specs.Rows.{RowsValue, no_rows}
use Rattle.xod_block.specs.declared.address.Address.{Address}
use Rattle.xod_block.specs.Maps.{RecordsAt}
use Rattle.xod_block.specs.Records.{Link}
use Rattle.xod_volume.specs.Files.{Files, bytes_of}
use Rattle.xod_trie.specs.Tries.{trie_map}
use Rattle.xod_trie.proofs.CallerLemmas.{has_trie}
use Rattle.xod_tables.specs.Reading.{rows_of}
use Rattle.xod_tables.proofs.CallerLemmas.{no_tables, rows_of_tables}
use Rattle.xod_log.specs.Ends.{body_of, end_at, back_at, ends_of}
use Rattle.xod_recover.specs.Check.{Newest, Rooted, no_newest, check, check_used, check_body, check_back, check_root, has_body, records_upto, root_address, root_of, rooted_in, trees_under}
use Rattle.xod_recover.specs.Opened.{open_count, greatest_used}
use Rattle.xod_recover.specs.Stores.{IsGood, rows_in, rows_stored, stored_by, stored_of}
use Rattle.xod_recover.specs.Walks.{bad_trees}
use Rattle.xod_recover.specs.Whole.{IsWhole}
use Rattle.xod_recover.proofs.Newests.{check-newest}
use Rattle.xod_recover.proofs.Tabling.{trees-ok}
use Rattle.xod_recover.proofs.Wholes.{trees-whole}

-- each tree has a map
abbrev HaveMaps : Files → Newest → Type 0
HaveMaps files newest = AllByRecursion (λ tree. IsSome (trie_map (records_upto files newest.file newest.end) (Some tree.1))) newest.trees

not-bad : (test : Bool) (place : Place) (next : Result Newest Place) (found : Newest) → cond test (Err place) next ≡ Ok found → next ≡ Ok found
not-bad true place next found e = absurd cc
not-bad false place next found e = e

pub whole-maps : (records : RecordsAt) (has : ℕ → Bool) (root : Address) (trees : List Link) → AllByRecursion (λ tree. IsWhole records has root tree.1) trees → AllByRecursion (λ tree. IsSome (trie_map records (Some tree.1))) trees
whole-maps records has root [] whole = tt
whole-maps records has root (tree ∷ trees) whole = (has_trie records tree.1 whole.0.map, whole-maps records has root trees whole.1)

module _ (files : Files) (found : Newest) where
  root-maps : (file mark end back : ℕ) (rooted : Option Rooted) → check_root files file mark end back rooted ≡ Ok found → HaveMaps files found
  root-maps file mark end back None e = absurd cc
  root-maps file mark end back (Some rooted) e =
      let newest : Newest = record { file = file; marks = suc mark; end = end; back = back; commit = rooted.0; trees = rooted.1 } in
      let root = root_address file end back in
      let h = trees-ok files newest found (bad_trees (records_upto files file end) (has_body files) root rooted.1) e in
      subst (HaveMaps files) h.1 (whole-maps (records_upto files file end) (has_body files) root rooted.1 (trees-whole (records_upto files file end) (has_body files) root rooted.1 h.0))

  file-maps : (file mark end back : ℕ) → check_body files file mark end back ≡ Ok found → HaveMaps files found
  file-maps file mark end back e =
      let long = not-bad (ltb (length (bytes_of files (body_of file))) end) _ (check_back files file mark end back) found e in
      let near = not-bad (ltb end back) _ (check_root files file mark end back (rooted_in (drop (end - back) (take end (bytes_of files (body_of file)))))) found long in
      root-maps file mark end back (rooted_in (drop (end - back) (take end (bytes_of files (body_of file))))) near

  used-maps : (used : Option ℕ) → check_used files used ≡ Ok found → HaveMaps files found
  used-maps None e = let same : no_newest ≡ found = cc e in subst (HaveMaps files) same tt
  used-maps (Some file) e = let ends = bytes_of files (ends_of file) in let mark = pred (open_count ends) in file-maps file mark (end_at ends mark) (back_at ends mark) e

  pub good-maps : check files ≡ Ok found → HaveMaps files found
  unfolding check
  good-maps e = used-maps (greatest_used files) e

-- so does each number of a tree
pub tree-map : (records : RecordsAt) (trees : List Link) (tree : ℕ) → AllByRecursion (λ tree. IsSome (trie_map records (Some tree.1))) trees → IsSome (trie_map records (root_of trees tree))
tree-map records [] tree maps = refl
tree-map records (root ∷ trees) tree maps = chosen (eqb root.0 tree) (tree-map records trees tree maps.1)
  where
    chosen : (own : Bool) → IsSome (trie_map records (root_of trees tree)) → IsSome (trie_map records (cond own (Some root.1) (root_of trees tree)))
    chosen true later = maps.0
    chosen false later = later

pub stored-maps : (files : Files) (found : Newest) → check files ≡ Ok found → (tree : ℕ) → IsSome ((stored_by files found).trees tree)
stored-maps files found e tree = tree-map (records_upto files found.file found.end) found.trees tree (good-maps files found e)

-- ---- they have rows

pub empty-rows : (files : Files) → rows_of (trees_under files no_newest) ≡ Some no_rows
empty-rows files = rows_of_tables (trees_under files no_newest) no_rows (no_tables (trees_under files no_newest) (λ tree. refl))

pub newest-rows : (files : Files) (newest : Newest) → check files ≡ Ok newest → IsSome (rows_of (trees_under files newest))
newest-rows files newest e = elim (check-newest files newest e) [
  | inl is ↦ subst (λ (n : Newest). IsSome (rows_of (trees_under files n))) (sym is.1) (ap (λ (rows : Option RowsValue). is_some rows) (empty-rows files))
  | inr is ↦ is.tables
]

rows-by : (files : Files) (found : Result Newest Place) → check files ≡ found → IsSome (stored_of files found) → IsSome (option_and_then rows_stored (stored_of files found))
rows-by files (Ok newest) is good = newest-rows files newest is
rows-by files (Err place) is good = absurd cc

pub good-rows : (files : Files) → IsGood files → IsSome (rows_in files)
good-rows files good = rows-by files (check files) refl good
