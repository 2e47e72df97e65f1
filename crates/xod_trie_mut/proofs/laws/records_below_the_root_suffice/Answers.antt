use Rattle.xod_trie_mut.proofs.LawLemmas.{root-same}
use Rattle.xod_trie_mut.proofs.laws.records_below_the_root_suffice.Goals as goal

pub returns : goal.returns
returns c trie old new sound same = root-same trie.base trie.own sound.own old new same trie.root sound.root
