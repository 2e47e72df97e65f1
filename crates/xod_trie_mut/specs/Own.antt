-- Branches in memory: they stand above all records of the log, in the order in which they were made.
use Rattle.std.specs.Prelude.{◌≡◌, ◌<◌, ◌≤◌, ℕ, ◌-◌, ◌^◌, Bool, true, false, ◌&&◌, IsTrue, nat_lt, nat_le, if◌then◌else◌, List, [], ◌∷◌, length, Option, Some, None, slice_get}
use Rattle.std.specs.List.{AllByRecursion}
use Rattle.std.specs.Option.{option_and_then}
use Rattle.xod_block.specs.declared.address.Address.{Address}
use Rattle.xod_block.specs.Addresses.{number_of}
use Rattle.xod_block.specs.Maps.{RecordsAt}
use Rattle.xod_block.specs.Records.{Link, RecordValue, Leaf, Node, FitsPart, FitsOwn, rise}
use Rattle.xod_trie.specs.declared.branch.Branch.{Branch}
use Rattle.xod_trie.specs.Tries.{TrieMap, trie_map}

-- ---- a branch as a record

-- one with a value and no child is a leaf
abbrev pub record_by : List ℕ → Option (List ℕ) → List Link → RecordValue
record_by key None children = Node key None children
record_by key (Some value) [] = Leaf key value
record_by key (Some value) (child ∷ children) = Node key (Some value) (child ∷ children)

abbrev pub record_as : Branch → RecordValue
record_as branch = record_by branch.key branch.value branch.children

-- whether so many children make a record: a value alone does, and else two children at least do
abbrev pub are_enough : Option (List ℕ) → ℕ → Bool
are_enough None count = nat_le 2 count
are_enough (Some value) count = nat_le 0 count

-- whether a branch is a leaf or a node: its child bytes rise, and it has a value or two children
abbrev pub is_whole : Branch → Bool
is_whole branch = rise branch.children && are_enough branch.value (length branch.children)

-- the record of a branch, where it is a leaf or a node
abbrev pub record_of : Branch → Option RecordValue
record_of branch = if is_whole branch then Some (record_as branch) else None

-- ---- where branches in memory stand

-- the first file number that no log file has
abbrev pub own_file : ℕ
own_file = 2 ^ 32

-- the address of a branch in memory, by its place in the list: above those of all records
abbrev pub own_address : ℕ → Address
own_address index = record { file = own_file; at = index }

-- whether an address is one of a log
abbrev pub is_saved : Address → Bool
is_saved address = nat_lt address.file own_file

-- the number of the first branch in memory
abbrev pub own_start : ℕ
own_start = 2 ^ 96

-- the records of a log, and above them the branches of a list
abbrev pub with_own : List Branch → RecordsAt → RecordsAt
with_own own records number =
    if nat_lt number own_start
    then records number
    else option_and_then record_of (slice_get own (number - own_start))

-- ---- a trie that is changed in memory

-- The root that it was made over, its own branches, and the root that it has now.
pub record TrieView : Type 0 where
  pub base : Option Address
  pub own : List Branch
  pub root : Option Address

-- the trie under a root, with nothing changed
abbrev pub over_root : Option Address → TrieView
over_root root = record { base = root; own = []; root = root }

-- its map over the records of a log
abbrev pub mut_map : TrieView → RecordsAt → Option TrieMap
mut_map trie records = trie_map (with_own trie.own records) trie.root

-- a record that is not above the root that the trie was made over
abbrev pub IsBelowBase : Option Address → Address → Type 0
IsBelowBase None address = ⊥
IsBelowBase (Some base) address = number_of address ≤ number_of base

-- a branch before a place of the list
pub record IsBefore (index : ℕ) (address : Address) : Type 0 where
  pub own : address.file ≡ own_file
  pub before : address.at < index

abbrev pub IsLowerBy : Bool → Option Address → ℕ → Address → Type 0
IsLowerBy true base index address = IsBelowBase base address
IsLowerBy false base index address = IsBefore index address

-- what may stand below the place of a branch in memory: records up to the old root, and branches before it
abbrev pub IsLower : Option Address → ℕ → Address → Type 0
IsLower base index address = IsLowerBy (is_saved address) base index address

-- A branch whose parts fit into a record, and whose child bytes rise. It may have too few children yet.
pub record HasParts (branch : Branch) : Type 0 where
  pub key_fits : FitsPart branch.key
  pub value_fits : FitsOwn branch.value
  pub bytes : AllByRecursion (λ child. child.0 < 256) branch.children
  pub rising : IsTrue (rise branch.children)

-- A branch at a place of the list: it is a leaf or a node, and all that it names is lower.
pub record IsOwn (base : Option Address) (index : ℕ) (branch : Branch) : Type 0 where
  pub parts : HasParts branch
  pub enough : IsTrue (are_enough branch.value (length branch.children))
  pub lower : AllByRecursion (λ child. IsLower base index child.1) branch.children

abbrev pub AreOwn : Option Address → List Branch → Type 0
AreOwn base own = (index : ℕ) (branch : Branch) → slice_get own index ≡ Some branch → IsOwn base index branch

-- a root that may be absent
abbrev pub IsRoot : Option Address → ℕ → Option Address → Type 0
IsRoot base count None = Unit {0}
IsRoot base count (Some address) = IsLower base count address

-- what always holds of a trie in memory
pub record IsSound (trie : TrieView) : Type 0 where
  pub own : AreOwn trie.base trie.own
  pub root : IsRoot trie.base (length trie.own) trie.root
