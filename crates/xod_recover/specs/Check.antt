-- Good files, as one decision: steps in a row, of which each gives the first bad place or goes on.
use Rattle.std.specs.Prelude.{ℕ, suc, pred, ◌-◌, ◌*◌, ◌==◌, Bool, true, ◌&&◌, nat_lt, nat_le, if◌then◌else◌, List, [], ◌∷◌, length, take, drop, Option, Some, None, is_some, Result, Ok, Err}
use Rattle.std.specs.FinMap.{get}
use Rattle.xod_base.specs.declared.causes.Place.{Place}
use Rattle.xod_base.specs.Rows.{RowsValue}
use Rattle.xod_base.specs.Views.{Trees}
use Rattle.xod_volume.specs.Files.{Files, bytes_of}
use Rattle.xod_block.specs.declared.address.Address.{Address}
use Rattle.xod_block.specs.Bodies.{Bodies, records_of}
use Rattle.xod_block.specs.Maps.{RecordsAt}
use Rattle.xod_block.specs.Records.{Link, RecordValue, Leaf, Node, Root}
use Rattle.xod_block.specs.Reading.{◌>>=◌, record_at}
use Rattle.xod_log.specs.Ends.{end_at, back_at, body_of, ends_of}
use Rattle.xod_tables.specs.Reading.{rows_of}
use Rattle.xod_trie.specs.Tries.{trie_map}
use Rattle.xod_recover.specs.Opened.{open_count, greatest_used}
use Rattle.xod_recover.specs.Walks.{bad_trees}

-- The newest root that is durable: the log file that it stands in, how many of that file's marks are open, where the
-- last of them says that its block ends and how far before that the root begins; the commit, and the roots of its trees.
pub record Newest : Type 0 where
  pub file : ℕ
  pub marks : ℕ
  pub end : ℕ
  pub back : ℕ
  pub commit : ℕ
  pub trees : List Link

-- where no log file is used
abbrev pub no_newest : Newest
no_newest = record { file = 0; marks = 0; end = 0; back = 0; commit = 0; trees = [] }

-- ---- what counts

-- the bodies of the log files, of which that of the file found counts up to the end of its last open mark
abbrev pub bodies_upto : Files → ℕ → ℕ → Bodies
bodies_upto files file end other = if other == file then take end (bytes_of files (body_of other)) else bytes_of files (body_of other)

-- the records in them
abbrev pub records_upto : Files → ℕ → ℕ → RecordsAt
records_upto files file end = records_of (bodies_upto files file end)

abbrev pub has_body : Files → ℕ → Bool
has_body files file = is_some (get files (body_of file))

-- ---- the root

-- a commit and the roots of its trees
abbrev pub Rooted : Type 0
Rooted = ℕ × List Link

-- the trees of a store have the numbers 1 to 8
abbrev pub are_trees : List Link → Bool
are_trees [] = true
are_trees (tree ∷ trees) = nat_le 1 tree.0 && nat_le tree.0 8 && are_trees trees

abbrev pub rooted_by : RecordValue → Option Rooted
rooted_by (Leaf key value) = None
rooted_by (Node key value children) = None
rooted_by (Root commit trees) = if are_trees trees then Some (commit, trees) else None

-- the root that bytes are, from first to last
unfoldable pub rooted_in : List ℕ → Option Rooted
rooted_in bytes = record_at bytes >>= (λ found. if found.1 == length bytes then rooted_by found.0 else None)

-- ---- the trees

-- the root of a tree by its number
abbrev pub root_of : List Link → ℕ → Option Address
root_of [] tree = None
root_of (root ∷ roots) tree = if root.0 == tree then Some root.1 else root_of roots tree

-- the trees under a newest root, as finite maps
abbrev pub trees_under : Files → Newest → Trees
trees_under files newest tree = trie_map (records_upto files newest.file newest.end) (root_of newest.trees tree)

-- ---- the steps, from the last to the first

-- the place of the newest root
abbrev pub root_at : Newest → Place
root_at newest = record { file = body_of newest.file; at = newest.end - newest.back }

-- the rows that the trees are the tables of
abbrev pub check_tables : Newest → Option RowsValue → Result Newest Place
check_tables newest None = Err (root_at newest)
check_tables newest (Some rows) = Ok newest

-- all that the root reaches, and then the rows
abbrev pub check_trees : Files → Newest → Option Place → Result Newest Place
check_trees files newest (Some place) = Err place
check_trees files newest None = check_tables newest (rows_of (trees_under files newest))

abbrev pub root_address : ℕ → ℕ → ℕ → Address
root_address file end back = record { file = file; at = end - back }

-- the root of exactly the last bytes before the end
abbrev pub check_root : Files → ℕ → ℕ → ℕ → ℕ → Option Rooted → Result Newest Place
check_root files file mark end back None = Err (record { file = body_of file; at = end - back })
check_root files file mark end back (Some rooted) =
    check_trees files
    (record { file = file; marks = suc mark; end = end; back = back; commit = rooted.0; trees = rooted.1 })
    (bad_trees (records_upto files file end) (has_body files) (root_address file end back) rooted.1)

-- how far before the end it begins
abbrev pub check_back : Files → ℕ → ℕ → ℕ → ℕ → Result Newest Place
check_back files file mark end back =
    if nat_lt end back
    then Err (record { file = ends_of file; at = 13 * mark })
    else check_root files file mark end back (rooted_in (drop (end - back) (take end (bytes_of files (body_of file)))))

-- the body, which is as long as the last open mark says at least
abbrev pub check_body : Files → ℕ → ℕ → ℕ → ℕ → Result Newest Place
check_body files file mark end back =
    if nat_lt (length (bytes_of files (body_of file))) end
    then Err (record { file = body_of file; at = length (bytes_of files (body_of file)) })
    else check_back files file mark end back

-- the last open mark of a used file
abbrev pub check_file : Files → ℕ → Result Newest Place
check_file files file =
    let ends = bytes_of files (ends_of file) in
    let mark = pred (open_count ends) in
    check_body files file mark (end_at ends mark) (back_at ends mark)

-- the greatest used file; without one the store is empty
abbrev pub check_used : Files → Option ℕ → Result Newest Place
check_used files None = Ok no_newest
check_used files (Some file) = check_file files file

-- The newest root that is durable in some files, or the first bad place.
unfoldable pub check : Files → Result Newest Place
check files = check_used files (greatest_used files)
