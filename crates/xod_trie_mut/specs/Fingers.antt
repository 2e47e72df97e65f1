-- Branches in hand on the way to a key, and the map that they stand for together with all that they name.
use Rattle.std.specs.Prelude.{◌≡◌, ℕ, ◌+◌, Bool, true, false, ◌==◌, if◌then◌else◌, List, [], ◌∷◌, ◌++◌, length, take, Option, Some, None, is_some, IsSome, IfSome, IsTrue}
use Rattle.std.specs.FinMap.{get}
use Rattle.std.specs.List.{AllByRecursion}
use Rattle.std.specs.Option.{option_map}
use Rattle.xod_block.specs.declared.address.Address.{Address}
use Rattle.xod_block.specs.Addresses.{number_of}
use Rattle.xod_block.specs.Maps.{RecordsAt, map_at}
use Rattle.xod_block.specs.Records.{Link, FitsPart}
use Rattle.xod_trie.specs.declared.branch.Branch.{Branch}
use Rattle.xod_trie.specs.Branches.{behind, child_of, value_by, value_in_child}
use Rattle.xod_trie.specs.Tries.{TrieMap, trie_map, value_at}
use Rattle.xod_trie_mut.specs.declared.finger.Finger.{Finger}
use Rattle.xod_trie_mut.specs.declared.finger.Level.{Level}
use Rattle.xod_trie_mut.specs.declared.finger.Opened.{Opened}
use Rattle.xod_trie_mut.specs.Changes.{set_in}
use Rattle.xod_trie_mut.specs.Own.{with_own, AreOwn, IsLower, IsRoot}

-- ---- values by keys

abbrev pub Values : Type 0
Values = List ℕ → Option (List ℕ)

-- those of what stands at each number
abbrev pub Below : Type 0
Below = ℕ → Values

-- no key with a value is longer than a record's part can be
abbrev pub ValuesFit : Values → Type 0
ValuesFit values = (key : List ℕ) → IsSome (values key) → FitsPart key

-- ---- at an address that may be absent

abbrev pub has_map : RecordsAt → Option Address → Bool
has_map records None = true
has_map records (Some at) = is_some (map_at records (number_of at))

abbrev pub value_under : RecordsAt → Option Address → Values
value_under records None key = None
value_under records (Some at) key = value_at records (number_of at) key

abbrev pub HaveMaps : RecordsAt → List Link → Type 0
HaveMaps records children = AllByRecursion (λ child. IsSome (map_at records (number_of child.1))) children

-- what stands at an address among the new records has the values that a branch has among the old
pub record StandsFor (old new : RecordsAt) (branch : Branch) (at : Option Address) : Type 0 where
  pub map : IsTrue (has_map new at)
  pub value : (key : List ℕ) → value_under new at key ≡ value_by (value_at old) branch key

-- ---- a branch whose child under one byte is in hand too

abbrev pub value_beside : Below → ℕ → Values → Option (List ℕ) → List Link → Option (List ℕ) → Option (List ℕ)
value_beside below byte inner value children None = None
value_beside below byte inner value children (Some []) = value
value_beside below byte inner value children (Some (next ∷ rest)) = if byte == next then inner rest else value_in_child below (child_of next children) rest

-- the value at a key, where what is in hand under the byte has the values `inner`
abbrev pub value_past : Below → Branch → ℕ → Values → Values
value_past below branch byte inner key = value_beside below byte inner branch.value branch.children (behind branch.key key)

-- the same over all levels, the root first
abbrev pub value_along : Below → List Level → Values → Values
value_along below [] inner = inner
value_along below (level ∷ levels) inner = value_past below level.opened.branch level.byte (value_along below levels inner)

-- the bytes of the key that stand before what is in hand last
abbrev pub path_of : List Level → List ℕ
path_of [] = []
path_of (level ∷ levels) = level.opened.branch.key ++ level.byte ∷ path_of levels

-- ---- what holds of the branches in hand

abbrev pub AreLower : Option Address → ℕ → List Link → Type 0
AreLower base count children = AllByRecursion (λ child. IsLower base count child.1) children

-- all that it names is lower than what comes next in memory, and so many bytes of the key stand before its key part
pub record IsHeld (base : Option Address) (count taken : ℕ) (opened : Opened) : Type 0 where
  pub lower : AreLower base count opened.branch.children
  pub taken_is : opened.taken ≡ taken

abbrev pub AreHeld : Option Address → ℕ → ℕ → List Level → Opened → Type 0
AreHeld base count taken [] opened = IsHeld base count taken opened
AreHeld base count taken (level ∷ levels) opened =
    IsHeld base count taken level.opened × AreHeld base count (taken + length level.opened.branch.key + 1) levels opened

-- its children have maps, and unless it was changed it has the values of what stands at its place
pub record IsReady (records : RecordsAt) (place : Option Address) (opened : Opened) : Type 0 where
  pub maps : HaveMaps records opened.branch.children
  pub same : opened.changed ≡ false → (key : List ℕ) → value_under records place key ≡ value_by (value_at records) opened.branch key

abbrev pub AreReady : RecordsAt → Option Address → List Level → Opened → Type 0
AreReady records place [] opened = IsReady records place opened
AreReady records place (level ∷ levels) opened =
    IsReady records place level.opened × AreReady records (child_of level.byte level.opened.branch.children) levels opened

-- the levels and what is in hand last have the values of a map
pub record HasMap (records : RecordsAt) (root : Option Address) (levels : List Level) (focus : Opened) (map : TrieMap) : Type 0 where
  pub root_has : IsTrue (has_map records root)
  pub ready : AreReady records root levels focus
  pub value : (key : List ℕ) → value_along (value_at records) levels (value_by (value_at records) focus.branch) key ≡ get map key

-- Levels and what is in hand last, over a trie's own branches. Where the records are told, they stand for a map, if there is one.
pub record IsFinger (tells : Bool) (records : RecordsAt) (base root : Option Address) (own : List Branch) (levels : List Level) (focus : Opened) (map : Option TrieMap) : Type 0 where
  pub own_are : AreOwn base own
  pub held : AreHeld base (length own) 0 levels focus
  pub stands : IsTrue tells → IfSome map (HasMap (with_own own records) root levels focus)

-- the same of a finger
abbrev pub IsInHand : Bool → RecordsAt → Option Address → Option Address → List Branch → Finger → Option TrieMap → Type 0
IsInHand tells records base root own finger map = IsFinger tells records base root own finger.levels.items finger.focus map

-- One key of the map has another value, or none, whatever trie the branches in hand are of: the key whose bytes behind
-- those on the way are given.
abbrev pub SetsKey : Finger → List ℕ → Option (List ℕ) → Finger → Type 0
SetsKey finger rest value made = (tells : Bool) (records : RecordsAt) (base root : Option Address) (own : List Branch) (map : Option TrieMap)
    → IsInHand tells records base root own finger map
    → IsInHand tells records base root own made (option_map (λ m. set_in m (path_of finger.levels.items ++ rest) value) map)

-- What is in hand last was put away, or let go where it was not changed, and the one above has it in its place.
pub record IsLeft (tells : Bool) (records : RecordsAt) (base : Option Address) (old new : List Branch) (taken : ℕ) (level : Level) (focus made : Opened) : Type 0 where
  pub own_are : AreOwn base new
  pub held : IsHeld base (length new) taken made
  pub ready : IsTrue tells → (place : Option Address) → IsReady (with_own old records) place level.opened
      → IsReady (with_own old records) (child_of level.byte level.opened.branch.children) focus → IsReady (with_own new records) place made
  pub value : IsTrue tells → HaveMaps (with_own old records) level.opened.branch.children
      → IsReady (with_own old records) (child_of level.byte level.opened.branch.children) focus
      → (key : List ℕ) → value_by (value_at (with_own new records)) made.branch key
      ≡ value_past (value_at (with_own old records)) level.opened.branch level.byte (value_by (value_at (with_own old records)) focus.branch) key

-- none of them was changed
pub record AreUntouched (levels : List Level) (focus : Opened) : Type 0 where
  pub levels_same : AllByRecursion (λ level. level.opened.changed ≡ false) levels
  pub focus_same : focus.changed ≡ false

abbrev pub IsUntouched : Finger → Type 0
IsUntouched finger = AreUntouched finger.levels.items finger.focus

-- the key begins with the bytes before what is in hand last
abbrev pub AreOnWay : List ℕ → List Level → Opened → Type 0
AreOnWay key levels focus = take focus.taken key ≡ path_of levels

abbrev pub IsOnWay : List ℕ → Finger → Type 0
IsOnWay key finger = AreOnWay key finger.levels.items finger.focus

-- no child is there for the key to go on at
abbrev pub StaysAt : Branch → List ℕ → Type 0
StaysAt branch key = (byte : ℕ) (rest : List ℕ) → behind branch.key key ≡ Some (byte ∷ rest) → child_of byte branch.children ≡ None

-- the key goes on at a child
pub record GoesAt (branch : Branch) (key : List ℕ) (byte : ℕ) (child : Address) : Type 0 where
  pub rest : List ℕ
  pub behind_is : behind branch.key key ≡ Some (byte ∷ rest)
  pub child_is : child_of byte branch.children ≡ Some child

-- ---- lists that go on

-- more items came at the end, if any
pub record Extends {A : Type 0} (old new : List A) : Type 0 where
  pub more : List A
  pub is : new ≡ old ++ more

-- a root that stands for a map, over branches that are sound
pub record IsClosed (tells : Bool) (records : RecordsAt) (base : Option Address) (own : List Branch) (root : Option Address) (map : Option TrieMap) : Type 0 where
  pub own_are : AreOwn base own
  pub root_is : IsRoot base (length own) root
  pub stands : IsTrue tells → IfSome map (λ m. trie_map (with_own own records) root ≡ Some m)
