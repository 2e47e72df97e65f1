-- What a block and its roots have while trees are added to it, one by one.
use Rattle.std.specs.Prelude.{◌≡◌, ◌≢◌, ◌<◌, ◌≤◌, ◌↔◌, ℕ, Bool, IsTrue, List, length, Option, Some, None, IfSome}
use Rattle.std.specs.FinMap.{empty, get}
use Rattle.std.specs.Option.{option_copied}
use Rattle.xod_block.specs.declared.address.Address.{Address}
use Rattle.xod_block.specs.Addresses.{number_of}
use Rattle.xod_block.specs.Bodies.{with_block, HasGrown}
use Rattle.xod_block.specs.Maps.{RecordsAt}
use Rattle.xod_overlay.specs.Marks.{Touch, TouchMap, overlaid}
use Rattle.xod_root.specs.Roots.{Roots}
use Rattle.xod_trie.specs.Tries.{trie_map}
use Rattle.xod_trie_mut.specs.declared.change.Change.{Change}
use Rattle.xod_trie_mut.specs.Saves.{IsBelow, further}
use Rattle.xod_commit.specs.declared.trees.Building.{Building}
use Rattle.xod_commit.specs.Blocks.{AreNumbered}

-- a change as a touch
abbrev pub touch_by : Change → Touch
touch_by change = (change.key.now, option_copied change.value)

-- each root begins before an address
abbrev pub AreBelow : Address → Roots → Type 0
AreBelow at roots = (tree : ℕ) → IsBelow (get roots tree) at

-- where a tree had a map, the new root has it with the touches, over the records before and the block
abbrev pub HasTouches : Address → RecordsAt → TouchMap → List ℕ → Option Address → Option Address → Type 0
HasTouches at records touches block old new = IfSome (trie_map records old) (λ map.
    trie_map (with_block (number_of at) block records) new ≡ Some (overlaid map touches))

-- where it had one and has touches, it has no root exactly where it is empty then
abbrev pub IsNoneWhereEmpty : RecordsAt → TouchMap → Option Address → Option Address → Type 0
IsNoneWhereEmpty records touches old new = touches ≢ empty → IfSome (trie_map records old) (λ map.
    (new ≡ None) ↔ (overlaid map touches ≡ empty))

-- One tree was added: its records came behind the block, and no other tree has another root.
pub record IsAdded (at : Address) (tells : Bool) (records : RecordsAt) (touches : TouchMap) (tree : ℕ) (old new : Building) : Type 0 where
  pub grown : HasGrown old.block new.block
  pub others : (other : ℕ) → other ≢ tree → get new.roots other ≡ get old.roots other
  pub touched : IsTrue tells → HasTouches at records touches new.block (get old.roots tree) (get new.roots tree)
  pub unlisted : IsTrue tells → IsNoneWhereEmpty records touches (get old.roots tree) (get new.roots tree)
  pub untouched : touches ≡ empty → get new.roots tree ≡ get old.roots tree
  pub below : IsBelow (get old.roots tree) at → IsBelow (get new.roots tree) (further at (length new.block))

-- The trees below a number were added to an empty block, and those from there on have the roots that they had.
pub record AreBuilt (at : Address) (tells : Bool) (records : RecordsAt) (touches : ℕ → TouchMap) (roots : Roots) (next : ℕ) (building : Building) : Type 0 where
  pub touched : IsTrue tells → (tree : ℕ) → tree < next → HasTouches at records (touches tree) building.block (get roots tree) (get building.roots tree)
  pub unlisted : IsTrue tells → (tree : ℕ) → tree < next → IsNoneWhereEmpty records (touches tree) (get roots tree) (get building.roots tree)
  pub later : (tree : ℕ) → next ≤ tree → get building.roots tree ≡ get roots tree
  pub untouched : (tree : ℕ) → touches tree ≡ empty → get building.roots tree ≡ get roots tree
  pub numbered : AreNumbered building.roots
  pub below : AreBelow (further at (length building.block)) building.roots
