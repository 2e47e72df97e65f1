-- The steps of the check at the last open mark of a log file.
use Rattle.std.specs.Prelude.{ℕ, ◌-◌, Bool, List, take, drop, Option, Some, None, Result, Ok, Err}
use Rattle.xod_base.specs.declared.causes.Place.{Place}
use Rattle.xod_base.specs.declared.causes.ReadError.{ReadError}
use Rattle.xod_base.specs.declared.causes.ReadError.TheVariants as read
use Rattle.xod_base.specs.Views.{Trees}
use Rattle.xod_block.specs.declared.address.Address.{Address}
use Rattle.xod_block.specs.Fetches.{place_of}
use Rattle.xod_block.specs.Maps.{RecordsAt}
use Rattle.xod_block.specs.Records.{Link}
use Rattle.xod_volume.specs.Files.{Files, bytes_of}
use Rattle.xod_log.specs.Ends.{body_of}
use Rattle.xod_audit.specs.Audits.{kinds_of}
use Rattle.xod_trie.specs.Tries.{trie_map}
use Rattle.xod_recover.specs.declared.ends.Marked.{Marked}
use Rattle.xod_recover.specs.Check.{Newest, Rooted, check_back, check_body, check_root, has_body, records_upto, root_of}
use Rattle.xod_recover.specs.Walks.{bad_trees}

-- the trees that a root names, as finite maps
abbrev pub trees_named : RecordsAt → List Link → Trees
trees_named records trees tree = trie_map records (root_of trees tree)

-- A bad place comes before all else. Then the root is bad where its trees are the tables of no rows, and else these are
-- the names of the rows' types.
abbrev pub kinds_or_bad : Address → Option Place → Option (List (List ℕ)) → Result (List (List ℕ)) Place
kinds_or_bad root (Some place) kinds = Err place
kinds_or_bad root None None = Err (place_of root)
kinds_or_bad root None (Some kinds) = Ok kinds

-- so of all that a root names
abbrev pub kinds_reached : RecordsAt → (ℕ → Bool) → Address → List Link → Result (List (List ℕ)) Place
kinds_reached records has_body root trees = kinds_or_bad root (bad_trees records has_body root trees) (kinds_of (trees_named records trees))

-- what stands for an audit's answer: where its trees are tables of no rows, the root is damaged
abbrev pub kinds_audited : Address → Result (Option (List (List ℕ))) ReadError → Result (List (List ℕ)) ReadError
kinds_audited root (Ok (Some kinds)) = Ok kinds
kinds_audited root (Ok None) = Err (read.Damaged (place_of root))
kinds_audited root (Err (read.Damaged place)) = Err (read.Damaged (place_of root))
kinds_audited root (Err read.Device) = Err read.Device
kinds_audited root (Err read.Memory) = Err read.Memory

-- where records in the root's own log file count up to the end
abbrev pub kinds_upto : Files → Address → ℕ → List Link → Result (List (List ℕ)) Place
kinds_upto files root end trees = kinds_reached (records_upto files root.file end) (has_body files) root trees

-- the bytes before the end that are to be a root
abbrev pub root_bytes : Files → Marked → List ℕ
root_bytes files marked = drop (marked.end - marked.back) (take marked.end (bytes_of files (body_of marked.file)))

abbrev pub by_root : Files → Marked → Option Rooted → Result Newest Place
by_root files marked rooted = check_root files marked.file marked.mark marked.end marked.back rooted

abbrev pub by_back : Files → Marked → Result Newest Place
by_back files marked = check_back files marked.file marked.mark marked.end marked.back

abbrev pub by_body : Files → Marked → Result Newest Place
by_body files marked = check_body files marked.file marked.mark marked.end marked.back
