-- What the block of a commit is that was built over the records of bodies.
use Rattle.std.specs.Prelude.{◌≡◌, ◌<◌, ◌≤◌, ℕ, ◌-◌, Bool, true, IsTrue, IfSome, Some, length, drop}
use Rattle.std.specs.FinMap.{entries, get}
use Rattle.xod_block.specs.declared.address.Address.{Address}
use Rattle.xod_block.specs.Addresses.{number_of}
use Rattle.xod_block.specs.Bodies.{with_block}
use Rattle.xod_block.specs.Maps.{RecordsAt}
use Rattle.xod_block.specs.Records.{Fits, spelling}
use Rattle.xod_commit.specs.declared.block.Built.{Built}
use Rattle.xod_commit.specs.Blocks.{all_begin_before, have_tree_numbers}
use Rattle.xod_overlay.specs.Marks.{TouchMap, overlaid}
use Rattle.xod_root.specs.Roots.{Roots, root_record}
use Rattle.xod_trie.specs.Tries.{trie_map}
use Rattle.xod_trie_mut.specs.Saves.{further}

-- Where the block stands behind the records, each tree that has a map has it with its touched keys; and the block ends with
-- the root record of the commit and the new roots, each of which begins before it.
pub record IsBlockOf (tells : Bool) (records : RecordsAt) (roots : Roots) (commit : ℕ) (at : Address) (touches : ℕ → TouchMap) (built : Built) : Type 0 where
  pub trees : IsTrue tells → (tree : ℕ) → IfSome (trie_map records (get roots tree)) (λ map. trie_map (with_block (number_of at) built.block records) (get built.roots tree) ≡ Some (overlaid map (touches tree)))
  pub numbered : have_tree_numbers (entries built.roots) ≡ true
  pub root : drop (length built.block - built.back) built.block ≡ spelling (root_record commit built.roots)
  pub fits : Fits (root_record commit built.roots)
  pub some : 0 < built.back
  pub within : built.back ≤ length built.block
  pub below : all_begin_before (further at (length built.block - built.back)) (entries built.roots) ≡ true

-- The root record stands within the block, and each tree that it lists has the number of a tree and begins before it.
pub record IsPlacedAt (at : Address) (built : Built) : Type 0 where
  pub numbered : have_tree_numbers (entries built.roots) ≡ true
  pub within : built.back ≤ length built.block
  pub below : all_begin_before (further at (length built.block - built.back)) (entries built.roots) ≡ true
