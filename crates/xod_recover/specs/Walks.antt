-- The first bad place on a walk over a trie: each record before its children, and these by rising byte.
use Rattle.std.specs.Prelude.{ℕ, ◌^◌, ◌/◌, zero, suc, Bool, ◌&&◌, nat_lt, if◌then◌else◌, List, [], ◌∷◌, Option, Some, None}
use Rattle.std.specs.List.{list_all}
use Rattle.xod_base.specs.declared.causes.Place.{Place}
use Rattle.xod_block.specs.declared.address.Address.{Address}
use Rattle.xod_block.specs.Addresses.{number_of}
use Rattle.xod_block.specs.Fetches.{place_of}
use Rattle.xod_block.specs.Maps.{RecordsAt}
use Rattle.xod_block.specs.Records.{Link}
use Rattle.xod_trie.specs.declared.branch.Branch.{Branch}
use Rattle.xod_trie.specs.Branches.{branch_of}

-- the one place, or else the other
abbrev pub or_else : Option Place → Option Place → Option Place
or_else None other = other
or_else (Some place) other = Some place

-- the first that the children have, by rising byte
abbrev pub first_bad : (Address → Option Place) → List Link → Option Place
first_bad bad [] = None
first_bad bad (child ∷ children) = or_else (bad child.1) (first_bad bad children)

-- Where no leaf or node stands at an address, that is the place. Else it is one that the children have.
abbrev pub bad_branch : (Address → Address → Option Place) → Address → Option Branch → Option Place
bad_branch bad at None = Some (place_of at)
bad_branch bad at (Some branch) = first_bad (bad at) branch.children

-- the log file in which the number of an address stands
abbrev pub file_at : Address → ℕ
file_at at = number_of at / 2 ^ 64

-- What a record names: where it does not stand below that record, or its log file has no body, the record is the place.
abbrev pub bad_within : ℕ → RecordsAt → (ℕ → Bool) → Address → Address → Option Place
bad_within zero records has_body naming at = Some (place_of naming)
bad_within (suc depth) records has_body naming at =
    if nat_lt (number_of at) (number_of naming) && has_body (file_at at)
    then bad_branch (bad_within depth records has_body) at (branch_of (records (number_of at)))
    else Some (place_of naming)

-- the first bad place of what a record names at an address, since addresses fall on each way down
unfoldable pub bad_under : RecordsAt → (ℕ → Bool) → Address → Address → Option Place
bad_under records has_body naming at = bad_within (suc (number_of naming)) records has_body naming at

-- of all trees that a root names, in their order
abbrev pub bad_trees : RecordsAt → (ℕ → Bool) → Address → List Link → Option Place
bad_trees records has_body root trees = first_bad (bad_under records has_body root) trees

-- each tree that a root names begins before the root does
abbrev pub are_below : Address → List Link → Bool
are_below root trees = list_all (λ tree. nat_lt (number_of tree.1) (number_of root)) trees
