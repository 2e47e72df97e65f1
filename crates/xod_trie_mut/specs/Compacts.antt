-- What is left of a trie in memory when it is compacted.
use Rattle.std.specs.Prelude.{◌≡◌, List, [], Option}
use Rattle.xod_block.specs.declared.address.Address.{Address}
use Rattle.xod_trie.specs.declared.branch.Branch.{Branch}
use Rattle.xod_trie_mut.specs.declared.compact.Kept.{Kept}
use Rattle.xod_trie_mut.specs.Saves.{list_places, saved, without_base}

-- just what a save into an empty list puts out
pub record IsCompacted (own : List Branch) (root : Option Address) (kept : Kept) : Type 0 where
  pub own_is : kept.own ≡ (saved list_places (without_base own root) []).branches
  pub root_is : kept.root ≡ (saved list_places (without_base own root) []).root
