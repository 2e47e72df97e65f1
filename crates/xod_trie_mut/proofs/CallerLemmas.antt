-- What the crates above cite of tries in memory.
-- branches in memory as records
pub use Rattle.xod_trie_mut.proofs.OwnLemmas.{with_own-rises, with_own-branches}
pub use Rattle.xod_trie_mut.proofs.LawLemmas.{root-same}
-- maps with changes
pub use Rattle.xod_trie_mut.proofs.PutLemmas.{get-set, same_key}
pub use Rattle.xod_trie_mut.proofs.ChangeLemmas.{with_changes-more, changes-fit, changes-nothing, fit-to-set}
