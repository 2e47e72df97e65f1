-- Leaves and nodes as one kind of thing, a branch, and what a branch has at a key.
use Rattle.std.specs.Prelude.{◌≡◌, ◌<◌, ◌≤◌, ℕ, ◌==◌, if◌then◌else◌, List, [], ◌∷◌, length, Option, Some, None, IsSome, IsTrue}
use Rattle.std.specs.List.{AllByRecursion}
use Rattle.std.specs.Option.{option_copied}
use Rattle.xod_block.specs.declared.address.Address.{Address}
use Rattle.xod_block.specs.Addresses.{number_of}
use Rattle.xod_block.specs.Maps.{RecordsAt, map_at}
use Rattle.xod_block.specs.Reading.{links_in}
use Rattle.xod_block.specs.Records.{Link, RecordValue, Leaf, Node, Root, FitsPart, FitsOwn, FitsLink, rise}
use Rattle.xod_trie.specs.declared.branch.Branch.{Branch}
use Rattle.xod_trie.specs.declared.branch.BranchRef.{BranchRef}

-- a record as a branch: a leaf has no child, and a root is none
abbrev pub branch_of : Option RecordValue → Option Branch
branch_of None = None
branch_of (Some (Leaf key value)) = Some (record { key = key; value = Some value; children = [] })
branch_of (Some (Node key value children)) = Some (record { key = key; value = value; children = children })
branch_of (Some (Root commit trees)) = None

-- what a branch in borrowed bytes is
abbrev pub branch_seen : BranchRef → Branch
branch_seen branch = record { key = branch.key.now; value = option_copied branch.value; children = links_in branch.links.now }

-- a record is this branch, and its child bytes rise
pub record IsBranch (item : Option RecordValue) (branch : Branch) : Type 0 where
  pub is : branch_of item ≡ Some branch
  pub rises : IsTrue (rise branch.children)

-- A branch within the bytes that spell it. One without a value has two children.
pub record FitsBranch (branch : Branch) : Type 0 where
  pub key_fits : FitsPart branch.key
  pub value_fits : FitsOwn branch.value
  pub enough : branch.value ≡ None → 2 ≤ length branch.children
  pub few : length branch.children ≤ 256
  pub each : AllByRecursion FitsLink branch.children
  pub rising : IsTrue (rise branch.children)

-- what is left of a key behind a front, where it begins with that
abbrev pub behind : List ℕ → List ℕ → Option (List ℕ)
behind [] key = Some key
behind (x ∷ front) [] = None
behind (x ∷ front) (y ∷ key) = if x == y then behind front key else None

-- the child under a byte
abbrev pub child_of : ℕ → List Link → Option Address
child_of byte [] = None
child_of byte (child ∷ children) = if child.0 == byte then Some child.1 else child_of byte children

-- ---- the value at a key of a branch, where `below` gives the one at a key of what stands at an address

abbrev pub value_in_child : (ℕ → List ℕ → Option (List ℕ)) → Option Address → List ℕ → Option (List ℕ)
value_in_child below None rest = None
value_in_child below (Some at) rest = below (number_of at) rest

abbrev pub value_behind : (ℕ → List ℕ → Option (List ℕ)) → Option (List ℕ) → List Link → Option (List ℕ) → Option (List ℕ)
value_behind below value children None = None
value_behind below value children (Some []) = value
value_behind below value children (Some (byte ∷ rest)) = value_in_child below (child_of byte children) rest

-- its own value for its key part alone, and else what the child under the next byte has at the rest
abbrev pub value_by : (ℕ → List ℕ → Option (List ℕ)) → Branch → List ℕ → Option (List ℕ)
value_by below branch key = value_behind below branch.value branch.children (behind branch.key key)

-- ---- children with maps

-- a child stands below its parent and has a map
pub record HasChild (records : RecordsAt) (at : ℕ) (child : Link) : Type 0 where
  pub lower : number_of child.1 < at
  pub map : IsSome (map_at records (number_of child.1))

abbrev pub HaveChildren : RecordsAt → ℕ → List Link → Type 0
HaveChildren records at children = AllByRecursion (HasChild records at) children
