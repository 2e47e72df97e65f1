-- What the crates above cite of tries.
-- the finite map under a root
pub use Rattle.xod_trie.proofs.Maps.{if_map, if_entries, no_map, has_pairs, has_trie, trie_map-more}
-- the map at an address by the branch there, and the value of a key
pub use Rattle.xod_trie.proofs.Values.{pairs_by, map_at-by, map_at-branch, value_at-by, map-down, map-up}
-- keys behind fronts, and children by their bytes
pub use Rattle.xod_trie.proofs.Keys.{tied, tied-byte, tied_behind, tied-behind, or_else, or_none, find-both, find_behind, find-under, AllAbove, all_above, none_above}
pub use Rattle.xod_trie.proofs.Lists.{take_one_more, drop_at_place, behind-is, behind-none}
-- what was read
pub use Rattle.xod_trie.proofs.Fetching.{Fetched-record_in, reads-first}
-- damage
pub use Rattle.xod_trie.proofs.Steps.{names-child, bad-child, damaged-at}
pub use Rattle.xod_trie.proofs.Damaged.{no_branch, no_branch-map, named-has, child_of-get, reached-map, damaged-map, damaged-trie}
-- the least pair
pub use Rattle.xod_trie.proofs.Leasts.{least-is, least-none}
