-- Children by their bytes, and parts of keys.
use Rattle.std.specs.Prelude.{◌≡◌, ◌≤◌, ℕ, ◌+◌, ◌^◌, ◌==◌, nat_lt, if◌then◌else◌, List, [], ◌∷◌, ◌++◌, length, Option, Some, None}
use Rattle.xod_block.specs.declared.address.Address.{Address}
use Rattle.xod_block.specs.Records.{Link}
use Rattle.xod_trie.specs.declared.branch.Branch.{Branch}
use Rattle.xod_trie_mut.specs.declared.own_branch.Halves.{Halves}

abbrev pub new_link : ℕ → Option Address → List Link
new_link byte None = []
new_link byte (Some at) = (byte, at) ∷ []

-- children, with another one under a byte, or none there
abbrev pub set_link : ℕ → Option Address → List Link → List Link
set_link byte at [] = new_link byte at
set_link byte at (child ∷ children) =
    if nat_lt child.0 byte
    then child ∷ set_link byte at children
    else new_link byte at ++ (if child.0 == byte then children else child ∷ children)

-- a branch with another child under a byte, or none there
abbrev pub relinked : Branch → ℕ → Option Address → Branch
relinked branch byte at = record branch { children = set_link byte at branch.children }

-- the branch of one key
abbrev pub leaf_of : List ℕ → List ℕ → Branch
leaf_of key value = record { key = key; value = Some value; children = [] }

-- a branch with one child, and that child, in one
abbrev pub both_in_one : List ℕ → ℕ → Branch → Branch
both_in_one front byte child = record child { key = front ++ byte ∷ child.key }

-- two branches in one, where the key part of both fits into a record
abbrev pub IsJoined : List ℕ → ℕ → Branch → Option Branch → Type 0
IsJoined front byte child None = 2 ^ 16 ≤ length front + 1 + length child.key
IsJoined front byte child (Some both) = both ≡ both_in_one front byte child

-- A branch that was cut at a place of its key part: the front with nothing else, and behind the byte there the rest.
pub record IsCut (branch : Branch) (count : ℕ) (halves : Halves) : Type 0 where
  pub whole : branch.key ≡ halves.upper.key ++ halves.byte ∷ halves.lower.key
  pub front : length halves.upper.key ≡ count
  pub upper : halves.upper ≡ record { key = halves.upper.key; value = None; children = [] }
  pub lower : halves.lower ≡ record branch { key = halves.lower.key }

-- a branch with neither a value nor a child
pub record IsBare (branch : Branch) : Type 0 where
  pub value : branch.value ≡ None
  pub children : branch.children ≡ []

-- a branch without a value and with one child
pub record HasOne (branch : Branch) (child : Link) : Type 0 where
  pub value : branch.value ≡ None
  pub children : branch.children ≡ child ∷ []
