use Rattle.xod_trie.proofs.Maps.{trie_map-more}
use Rattle.xod_trie.proofs.laws.more_records_change_no_trie.Goals as goal

pub returns : goal.returns
returns c = trie_map-more
