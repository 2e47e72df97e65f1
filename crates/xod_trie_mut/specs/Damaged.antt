-- Which place of a broken trie a change may name.
use Rattle.std.specs.Prelude.{◌≡◌, ◌≤◌, ℕ, List, Some, slice_get}
use Rattle.xod_base.specs.declared.causes.Place.{Place}
use Rattle.xod_block.specs.declared.address.Address.{Address}
use Rattle.xod_block.specs.Addresses.{number_of}
use Rattle.xod_block.specs.Fetches.{place_of}
use Rattle.xod_block.specs.Maps.{RecordsAt}
use Rattle.xod_block.specs.Records.{Link}
use Rattle.xod_trie.specs.Damage.{IsBad}

-- the bytes there begin with no leaf or node, or name a child that is not below it
pub record IsBadPlace (records : RecordsAt) (place : Place) : Type 0 where
  pub at : Address
  pub bad : IsBad (records (number_of at)) (number_of at)
  pub place_is : place ≡ place_of at

-- one of some links is not below an address
pub record HasNotBelow (links : List Link) (at : Address) : Type 0 where
  pub index : ℕ
  pub child : Link
  pub link : slice_get links index ≡ Some child
  pub above : number_of at ≤ number_of child.1
