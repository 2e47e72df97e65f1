-- Which entries of a branch pass a test by order.
use Rattle.std.specs.Prelude.{◌≡◌, ℕ, suc, Bool, nat_lt, if◌then◌else◌, List, [], ◌∷◌, ◌++◌, drop, Option, Some, None}
use Rattle.xod_base.specs.Views.{Entry}
use Rattle.xod_block.specs.Addresses.{number_of}
use Rattle.xod_block.specs.Maps.{RecordsAt, Pairs, under, pairs_of_children, map_at}
use Rattle.xod_block.specs.Reading.{links_in}
use Rattle.xod_block.specs.Records.{Link, RecordValue}
use Rattle.xod_trie.specs.declared.branch.Branch.{Branch}
use Rattle.xod_trie.specs.Branches.{branch_of}
use Rattle.xod_trie.specs.Damage.{Names}
use Rattle.xod_trie.specs.Least.{passes}
use Rattle.xod_cursor.specs.declared.wanted.Onward.{Onward}
use Rattle.xod_cursor.specs.declared.wanted.Wanted.{Wanted}
use Rattle.xod_cursor.specs.declared.wanted.Wanted.TheVariants as wanted
use Rattle.xod_cursor.specs.Entries.{kept}

-- how many children stand under a lesser byte, before the first that does not
abbrev pub count_below : ℕ → List Link → ℕ
count_below byte [] = 0
count_below byte (child ∷ children) = if nat_lt child.0 byte then suc (count_below byte children) else 0

-- the entries under children of the branch at an address
abbrev pub entries_under : RecordsAt → ℕ → List Link → Option Pairs
entries_under records at children = pairs_of_children (map_at records) at children

-- the children from a place on
abbrev pub onward_children : Onward → List Link
onward_children onward = drop onward.place (links_in onward.links.now)

-- what is left of a key goes on behind the key part, and these are all the entries under the children from a place on
pub record IsOnward (records : RecordsAt) (at : ℕ) (rest : List ℕ) (onward : Onward) (entries : List Entry) : Type 0 where
  pub whole : rest ≡ onward.part.now ++ onward.behind.now
  pub others : Pairs
  pub others_is : entries_under records at (onward_children onward) ≡ Some others
  pub is : entries ≡ under onward.part.now others

-- under the child of its next byte those that pass what is left then, and all under the children behind that one
pub record IsInto (records : RecordsAt) (strict : Bool) (at : ℕ) (rest : List ℕ) (child : Link) (left : List ℕ) (onward : Onward) (entries : List Entry) : Type 0 where
  pub whole : rest ≡ onward.part.now ++ onward.behind.now
  pub behind_is : onward.behind.now ≡ child.0 ∷ left
  pub first : Pairs
  pub first_is : map_at records (number_of child.1) ≡ Some first
  pub others : Pairs
  pub others_is : entries_under records at (onward_children onward) ≡ Some others
  pub is : entries ≡ under onward.part.now (under (child.0 ∷ []) (kept (passes strict left) first) ++ others)

-- the entries of a branch that pass, of all its `pairs`
abbrev pub IsWanted : RecordsAt → Bool → ℕ → List ℕ → Pairs → List Entry → Wanted → Type 0
IsWanted records strict at rest pairs entries wanted.Damaged = Unit {0}
IsWanted records strict at rest pairs entries wanted.All = entries ≡ pairs
IsWanted records strict at rest pairs entries wanted.Nothing = entries ≡ []
IsWanted records strict at rest pairs entries (wanted.From onward) = IsOnward records at rest onward entries
IsWanted records strict at rest pairs entries (wanted.Into child left onward) = IsInto records strict at rest child left.now onward entries

-- a leaf or node has these children
pub record HasChildren (item : Option RecordValue) (children : List Link) : Type 0 where
  pub branch : Branch
  pub is : branch_of item ≡ Some branch
  pub children_are : branch.children ≡ children

-- what was read of a record: its children, and one of them, or that there is no leaf or node
abbrev pub IsRead : Option RecordValue → Wanted → Type 0
IsRead item wanted.Damaged = branch_of item ≡ None
IsRead item wanted.All = Unit {0}
IsRead item wanted.Nothing = Unit {0}
IsRead item (wanted.From onward) = HasChildren item (links_in onward.links.now)
IsRead item (wanted.Into child left onward) = HasChildren item (links_in onward.links.now) × Names item child.1
