-- What the records of a log are, and the one spelling of each.
use Rattle.std.specs.Prelude.{◌≡◌, ◌<◌, ◌≤◌, ◌^◌, ℕ, Bool, true, ◌&&◌, IsTrue, nat_lt, List, [], ◌∷◌, ◌++◌, length, take, Option, Some, None}
use Rattle.std.specs.List.{flat_map, AllByRecursion}
use Rattle.std.specs.Int.{w16, w32, w64, to_be_bytes}
use Rattle.xod_block.specs.declared.address.Address.{Address}

-- the byte of a child or the number of a tree, and where its record begins
abbrev pub Link : Type 0
Link = ℕ × Address

-- a record, apart from where its bytes lie
pub data RecordValue : Type 0 where
  Leaf : List ℕ → List ℕ → RecordValue
  Node : List ℕ → Option (List ℕ) → List Link → RecordValue
  Root : ℕ → List Link → RecordValue

-- ---- spelling

-- a length in two bytes, and that many bytes
abbrev pub part_bytes : List ℕ → List ℕ
part_bytes bytes = to_be_bytes w16 (length bytes) ++ bytes

-- 0 where there is no value, and otherwise 1 and the value
abbrev pub own_bytes : Option (List ℕ) → List ℕ
own_bytes None = 0 ∷ []
own_bytes (Some value) = 1 ∷ part_bytes value

-- the file in four bytes, and the place in eight
abbrev pub address_bytes : Address → List ℕ
address_bytes at = to_be_bytes w32 at.file ++ to_be_bytes w64 at.at

abbrev pub link_bytes : Link → List ℕ
link_bytes link = link.0 ∷ address_bytes link.1

abbrev pub links_bytes : List Link → List ℕ
links_bytes links = flat_map link_bytes links

-- the kind in one byte, and the parts of that kind
abbrev pub spelling : RecordValue → List ℕ
spelling (Leaf key value) = 1 ∷ part_bytes key ++ part_bytes value
spelling (Node key value children) = 2 ∷ part_bytes key ++ own_bytes value ++ to_be_bytes w16 (length children) ++ links_bytes children
spelling (Root commit trees) = 3 ∷ 1 ∷ to_be_bytes w64 commit ++ length trees ∷ links_bytes trees

-- ---- what has a spelling

-- the numbers of links rise strictly
abbrev pub rise : List Link → Bool
rise [] = true
rise (a ∷ []) = true
rise (a ∷ b ∷ links) = nat_lt a.0 b.0 && rise (b ∷ links)

-- numbers within the bytes that spell them
pub record FitsLink (link : Link) : Type 0 where
  pub number : link.0 < 256
  pub file : link.1.file < 2 ^ 32
  pub at : link.1.at < 2 ^ 64

-- a node has a value and one child, or two children, at least
abbrev pub least_children : Option (List ℕ) → ℕ
least_children None = 2
least_children (Some value) = 1

abbrev pub FitsPart : List ℕ → Type 0
FitsPart bytes = length bytes < 2 ^ 16

abbrev pub FitsOwn : Option (List ℕ) → Type 0
FitsOwn None = Unit {0}
FitsOwn (Some value) = FitsPart value

pub record FitsLeaf (key value : List ℕ) : Type 0 where
  pub key_fits : FitsPart key
  pub value_fits : FitsPart value

pub record FitsNode (key : List ℕ) (value : Option (List ℕ)) (children : List Link) : Type 0 where
  pub key_fits : FitsPart key
  pub value_fits : FitsOwn value
  pub enough : least_children value ≤ length children
  pub few : length children ≤ 256
  pub each : AllByRecursion FitsLink children
  pub rising : IsTrue (rise children)

pub record FitsRoot (commit : ℕ) (trees : List Link) : Type 0 where
  pub commit_fits : commit < 2 ^ 64
  pub few : length trees ≤ 32
  pub each : AllByRecursion FitsLink trees
  pub rising : IsTrue (rise trees)

-- which values are records: those that have a spelling
abbrev pub Fits : RecordValue → Type 0
Fits (Leaf key value) = FitsLeaf key value
Fits (Node key value children) = FitsNode key value children
Fits (Root commit trees) = FitsRoot commit trees

-- bytes begin with this record, which takes so many of them
pub record BeginsWith (bytes : List ℕ) (value : RecordValue) (count : ℕ) : Type 0 where
  pub fits : Fits value
  pub within : count ≤ length bytes
  pub spelled : take count bytes ≡ spelling value

-- the children of a node, and none for others
abbrev pub children_of : RecordValue → List Link
children_of (Leaf key value) = []
children_of (Node key value children) = children
children_of (Root commit trees) = []
