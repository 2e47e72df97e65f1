-- What a snapshot has.
use Rattle.std.specs.Prelude.{Option}
use Rattle.std.specs.FinMap.{get}
use Rattle.xod_base.specs.Views.{Tree, Trees}
use Rattle.xod_block.specs.declared.address.Address.{Address}
use Rattle.xod_block.specs.Bodies.{records_of}
use Rattle.xod_pages.specs.Lent.{lent_bodies}
use Rattle.xod_root.specs.Roots.{Roots}
use Rattle.xod_trie.specs.Tries.{trie_map}
use Rattle.xod_volume.specs.Files.{Files}

-- the map of the trie under a root, over the records of the bodies lent
abbrev pub lent_trie : Files → Option Address → Option Tree
lent_trie lent root = trie_map (records_of (lent_bodies lent)) root

-- Tree by tree that under its root. A tree that is not listed is the empty map.
abbrev pub snapshot_trees : Files → Roots → Trees
snapshot_trees lent roots tree = lent_trie lent (get roots tree)
