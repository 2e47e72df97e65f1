-- Where a record sends a key that is looked up.
use Rattle.std.specs.Prelude.{◌≡◌, ◌<◌, ℕ, List, ◌∷◌, Option, Some, IsSome}
use Rattle.std.specs.Option.{option_copied}
use Rattle.xod_block.specs.declared.address.Address.{Address}
use Rattle.xod_block.specs.Addresses.{number_of}
use Rattle.xod_block.specs.Maps.{RecordsAt, map_at}
use Rattle.xod_block.specs.Records.{RecordValue}
use Rattle.xod_trie.specs.declared.branch.Branch.{Branch}
use Rattle.xod_trie.specs.declared.way.Way.{Way}
use Rattle.xod_trie.specs.declared.way.Way.TheVariants as way
use Rattle.xod_trie.specs.Branches.{IsBranch, behind, child_of, value_by}
use Rattle.xod_trie.specs.Damage.{IsBad}
use Rattle.xod_trie.specs.Tries.{value_at}

-- the value is known, whatever the children have
pub record EndsWith (item : Option RecordValue) (rest : List ℕ) (value : Option (List ℕ)) : Type 0 where
  pub branch : Branch
  pub here : IsBranch item branch
  pub ends : (below : ℕ → List ℕ → Option (List ℕ)) → value_by below branch rest ≡ value

-- a child below is named, and has the key behind its byte
pub record GoesTo (item : Option RecordValue) (at : ℕ) (rest : List ℕ) (child : Address) (left : List ℕ) : Type 0 where
  pub branch : Branch
  pub here : IsBranch item branch
  pub byte : ℕ
  pub behind_is : behind branch.key rest ≡ Some (byte ∷ left)
  pub child_is : child_of byte branch.children ≡ Some child
  pub lower : number_of child < at

abbrev pub IsWay : Option RecordValue → ℕ → List ℕ → Way → Type 0
IsWay item at rest (way.Ends value) = EndsWith item rest (option_copied value)
IsWay item at rest (way.Goes child left) = GoesTo item at rest child left.now
IsWay item at rest way.Damaged = IsBad item at

-- what is sought under one address is what is left of the key under another, which has a map too
pub record LeadsTo (records : RecordsAt) (from : ℕ) (key : List ℕ) (at : ℕ) (rest : List ℕ) : Type 0 where
  pub map : IsSome (map_at records at)
  pub value : value_at records at rest ≡ value_at records from key
