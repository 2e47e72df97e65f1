-- Where a walk to the first entry that passes has come to.
use Rattle.std.specs.Prelude.{◌≡◌, ℕ, Bool, List, [], ◌∷◌, ◌++◌, Option, Some, None}
use Rattle.xod_base.specs.Views.{Entry}
use Rattle.xod_block.specs.declared.address.Address.{Address}
use Rattle.xod_block.specs.Addresses.{number_of}
use Rattle.xod_block.specs.Maps.{RecordsAt, Pairs, under, map_at}
use Rattle.xod_block.specs.Records.{RecordValue}
use Rattle.xod_trie.specs.Branches.{branch_of}
use Rattle.xod_trie.specs.Damage.{Names, IsReached}
use Rattle.xod_trie.specs.Least.{passes}
use Rattle.xod_cursor.specs.declared.lowest.Low.{Low}
use Rattle.xod_cursor.specs.declared.lowest.Low.TheVariants as low
use Rattle.xod_cursor.specs.declared.walks.Start.{Start}
use Rattle.xod_cursor.specs.Entries.{kept, first_pair}

-- a list of entries begins with all those at an address, each behind a front
pub record BeginsAt (records : RecordsAt) (front : List ℕ) (at : ℕ) (entries : List Entry) : Type 0 where
  pub first : Pairs
  pub first_is : map_at records at ≡ Some first
  pub others : Pairs
  pub is : entries ≡ under front first ++ others

-- the first entry is this one, or it is below a child
abbrev pub IsLow : RecordsAt → List Entry → Low → Type 0
IsLow records entries low.Damaged = Unit {0}
IsLow records entries (low.Ends pair) = first_pair entries ≡ Some pair
IsLow records entries (low.Goes front child) = BeginsAt records front (number_of child) entries

-- what was read of a record: a child of it, or that there is no leaf or node
abbrev pub IsLowRead : Option RecordValue → Low → Type 0
IsLowRead item low.Damaged = branch_of item ≡ None
IsLowRead item (low.Ends pair) = Unit {0}
IsLowRead item (low.Goes front child) = Names item child

-- ---- the place to come back to

-- the first entry of a list is the least one below that place; without a place there is none
abbrev pub IsBack : RecordsAt → Option Start → List Entry → Type 0
IsBack records None entries = entries ≡ []
IsBack records (Some start) entries = BeginsAt records (start.front.now ++ start.byte ∷ []) (number_of start.at) entries

-- it is a child of what is reached
abbrev pub IsBackReached : RecordsAt → Option Address → Option Start → Type 0
IsBackReached records root None = Unit {0}
IsBackReached records root (Some start) = IsReached records root start.parent × Names (records (number_of start.parent)) start.at

-- the entries that are sought are those at an address that pass what is left of the key, and then others that are left
pub record Walks (records : RecordsAt) (strict : Bool) (key : List ℕ) (entries : List Entry) (at : ℕ) (rest : List ℕ) (AreLeft : List Entry → Type 0) : Type 0 where
  pub pairs : Pairs
  pub pairs_is : map_at records at ≡ Some pairs
  pub done : List ℕ
  pub whole : key ≡ done ++ rest
  pub later : Pairs
  pub is : entries ≡ under done (kept (passes strict rest) pairs) ++ later
  pub left : AreLeft later
