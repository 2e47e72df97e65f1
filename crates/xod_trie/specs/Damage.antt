-- Which places of a trie are damaged: they are reached from its root, and their bytes are those of no trie.
use Rattle.std.specs.Prelude.{◌≡◌, ◌≤◌, ℕ, Option, Some, None, slice_get}
use Rattle.xod_base.specs.declared.causes.Place.{Place}
use Rattle.xod_block.specs.declared.address.Address.{Address}
use Rattle.xod_block.specs.Addresses.{number_of}
use Rattle.xod_block.specs.Fetches.{place_of}
use Rattle.xod_block.specs.Maps.{RecordsAt}
use Rattle.xod_block.specs.Records.{RecordValue}
use Rattle.xod_trie.specs.declared.branch.Branch.{Branch}
use Rattle.xod_trie.specs.Branches.{branch_of}

-- a leaf or node has a child at this address, under some byte
pub record Names (item : Option RecordValue) (child : Address) : Type 0 where
  pub branch : Branch
  pub is : branch_of item ≡ Some branch
  pub index : ℕ
  pub byte : ℕ
  pub link : slice_get branch.children index ≡ Some (byte, child)

-- the root, and each child of what is reached
pub data IsReached (records : RecordsAt) (root : Option Address) : Address → Type 0 where
  AtRoot : (at : Address) → root ≡ Some at → IsReached records root at
  Below : (at child : Address) → IsReached records root at → Names (records (number_of at)) child → IsReached records root child

-- no leaf or node stands there, or one with a child that is not below it
pub data IsBad (item : Option RecordValue) (at : ℕ) : Type 0 where
  NoBranch : branch_of item ≡ None → IsBad item at
  NotBelow : (child : Address) → Names item child → at ≤ number_of child → IsBad item at

-- the place of an address that is reached and bad
pub record IsDamaged (records : RecordsAt) (root : Option Address) (place : Place) : Type 0 where
  pub at : Address
  pub reached : IsReached records root at
  pub bad : IsBad (records (number_of at)) (number_of at)
  pub place_is : place ≡ place_of at
