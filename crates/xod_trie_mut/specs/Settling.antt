-- Branches taken in hand, and put away again as a leaf or a node.
use Rattle.std.specs.Prelude.{◌≡◌, ◌<◌, ◌^◌, ℕ, Bool, true, false, IsTrue, List, length, Option}
use Rattle.std.specs.List.{AllByRecursion}
use Rattle.xod_block.specs.declared.address.Address.{Address}
use Rattle.xod_block.specs.Addresses.{number_of}
use Rattle.xod_block.specs.Maps.{RecordsAt}
use Rattle.xod_block.specs.Records.{Link}
use Rattle.xod_trie.specs.declared.branch.Branch.{Branch}
use Rattle.xod_trie.specs.Branches.{IsBranch, value_by}
use Rattle.xod_trie.specs.Tries.{value_at}
use Rattle.xod_trie_mut.specs.declared.finger.Opened.{Opened}
use Rattle.xod_trie_mut.specs.Fingers.{AreLower, HaveMaps, IsReady, StandsFor, has_map}
use Rattle.xod_trie_mut.specs.Own.{AreOwn, IsRoot, are_enough, is_saved, with_own}

-- an address of the log that is below another
pub record IsSavedBelow (at : Address) (child : Link) : Type 0 where
  pub file : child.1.file < 2 ^ 32
  pub lower : number_of child.1 < number_of at

-- what a record of the log has: a value or two children, which are all below it
pub record IsSavedBranch (at : Address) (branch : Branch) : Type 0 where
  pub below : AllByRecursion (IsSavedBelow at) branch.children
  pub enough : IsTrue (are_enough branch.value (length branch.children))

-- one address is under another: by its number in the log, and by its place in memory
abbrev pub IsUnderBy : Bool → Bool → Address → Address → Type 0
IsUnderBy true saved at child = (saved ≡ true) × (number_of child < number_of at)
IsUnderBy false true at child = Unit {0}
IsUnderBy false false at child = child.at < at.at

abbrev pub IsUnder : Address → Address → Type 0
IsUnder at child = IsUnderBy (is_saved at) (is_saved child) at child

-- A branch that was loaded from an address. Where the records are told it stands there.
pub record IsLoaded (tells : Bool) (records : RecordsAt) (base : Option Address) (own : List Branch) (at : Address) (branch : Branch) : Type 0 where
  pub lower : AreLower base (length own) branch.children
  pub under : AllByRecursion (λ child. IsUnder at child.1) branch.children
  pub enough : IsTrue (are_enough branch.value (length branch.children))
  pub here : IsTrue tells → IsBranch (with_own own records (number_of at)) branch

-- one branch has the values of another
pub record IsAlike (old new : RecordsAt) (branch made : Branch) : Type 0 where
  pub maps : HaveMaps new made.children
  pub value : (key : List ℕ) → value_by (value_at new) made key ≡ value_by (value_at old) branch key

-- A branch with enough children in place of one that may have had too few.
pub record IsMerged (tells : Bool) (records : RecordsAt) (base : Option Address) (own : List Branch) (branch made : Branch) : Type 0 where
  pub lower : AreLower base (length own) made.children
  pub enough : IsTrue (are_enough made.value (length made.children))
  pub alike : IsTrue tells → HaveMaps (with_own own records) branch.children → IsAlike (with_own own records) (with_own own records) branch made

-- A branch that was put away. Where the records are told, what stands at its address has its values.
pub record IsSettled (tells : Bool) (records : RecordsAt) (base : Option Address) (old new : List Branch) (branch : Branch) (at : Option Address) : Type 0 where
  pub own : AreOwn base new
  pub root : IsRoot base (length new) at
  pub stands : IsTrue tells → HaveMaps (with_own old records) branch.children → StandsFor (with_own old records) (with_own new records) branch at

-- A branch in hand was opened where a key leaves its key part: it, or a new one with the front of its key part.
pub record IsOpened (tells : Bool) (records : RecordsAt) (base : Option Address) (old new : List Branch) (opened made : Opened) : Type 0 where
  pub own_are : AreOwn base new
  pub lower : AreLower base (length new) made.branch.children
  pub taken_same : made.taken ≡ opened.taken
  pub ready : IsTrue tells → (place : Option Address) → IsTrue (has_map (with_own old records) place) → IsReady (with_own old records) place opened → IsReady (with_own new records) place made
  pub alike : IsTrue tells → HaveMaps (with_own old records) opened.branch.children → IsAlike (with_own old records) (with_own new records) opened.branch made.branch
