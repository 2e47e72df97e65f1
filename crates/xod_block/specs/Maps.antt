-- The map that a leaf or a node stands for, together with the records that it names.
use Rattle.std.specs.Prelude.{◌≡◌, ◌≤◌, ℕ, zero, suc, nat_lt, if◌then◌else◌, List, [], ◌∷◌, ◌++◌, length, map, Option, Some, None, IfSome, IsTrue}
use Rattle.std.specs.Option.{option_map}
use Rattle.xod_block.specs.Addresses.{number_of}
use Rattle.xod_block.specs.Records.{Link, RecordValue, Leaf, Node, Root, least_children, rise}

-- what stands at an address, which is written as a number: a record, where one stands there whole
abbrev pub RecordsAt : Type 0
RecordsAt = ℕ → Option RecordValue

-- the child bytes of a node rise
abbrev pub HasRisingChildren : RecordValue → Type 0
HasRisingChildren (Leaf key value) = Unit {0}
HasRisingChildren (Node key value children) = IsTrue (rise children)
HasRisingChildren (Root commit trees) = Unit {0}

-- they do at each address
abbrev pub RisesEverywhere : RecordsAt → Type 0
RisesEverywhere records = (at : ℕ) → IfSome (records at) HasRisingChildren

-- a node has a value and one child, or two children, at least
abbrev pub HasEnoughChildren : RecordValue → Type 0
HasEnoughChildren (Leaf key value) = Unit {0}
HasEnoughChildren (Node key value children) = least_children value ≤ length children
HasEnoughChildren (Root commit trees) = Unit {0}

-- it does at each address
abbrev pub BranchesEverywhere : RecordsAt → Type 0
BranchesEverywhere records = (at : ℕ) → IfSome (records at) HasEnoughChildren

-- a key and its value, for each key, by rising key
abbrev pub Pairs : Type 0
Pairs = List (List ℕ × List ℕ)

-- the pairs with a front before each key
abbrev pub under : List ℕ → Pairs → Pairs
under front pairs = map (λ pair. (front ++ pair.0, pair.1)) pairs

-- the value of the empty key, where there is one
abbrev pub own_pair : Option (List ℕ) → Pairs
own_pair None = []
own_pair (Some value) = ([], value) ∷ []

-- the pairs of both, where there are both
abbrev pub joined : Option Pairs → Option Pairs → Option Pairs
joined None others = None
joined (Some pairs) None = None
joined (Some pairs) (Some others) = Some (pairs ++ others)

-- the pairs of the children, of which each has an address below that of their node; `below` gives the map at an address
abbrev pub pairs_of_children : (ℕ → Option Pairs) → ℕ → List Link → Option Pairs
pairs_of_children below at [] = Some []
pairs_of_children below at (child ∷ children) =
    if nat_lt (number_of child.1) at
    then joined (option_map (under (child.0 ∷ [])) (below (number_of child.1))) (pairs_of_children below at children)
    else None

-- a node's key part is the front of every key, and its value belongs to the key part alone
abbrev pub pairs_of_node : (ℕ → Option Pairs) → ℕ → List ℕ → Option (List ℕ) → List Link → Option Pairs
pairs_of_node below at key value children = option_map (λ pairs. under key (own_pair value ++ pairs)) (pairs_of_children below at children)

-- a leaf is one pair; a root is no map
abbrev pub pairs_of : (ℕ → Option Pairs) → ℕ → Option RecordValue → Option Pairs
pairs_of below at None = None
pairs_of below at (Some (Leaf key value)) = Some ((key, value) ∷ [])
pairs_of below at (Some (Node key value children)) = pairs_of_node below at key value children
pairs_of below at (Some (Root commit trees)) = None

-- the map at an address, where no way down passes more than so many records
abbrev pub map_within : RecordsAt → ℕ → ℕ → Option Pairs
map_within records zero at = None
map_within records (suc depth) at = pairs_of (map_within records depth) at (records at)

-- the map at an address, since addresses fall on each way down; none where a place that is reached has no whole leaf or node
unfoldable pub map_at : RecordsAt → ℕ → Option Pairs
map_at records at = map_within records (suc at) at

-- each record that stood up to an address stands there still, and more may have come
abbrev pub OnlyMore : RecordsAt → RecordsAt → ℕ → Type 0
OnlyMore old new at = (below : ℕ) (item : RecordValue) → below ≤ at → old below ≡ Some item → new below ≡ Some item
