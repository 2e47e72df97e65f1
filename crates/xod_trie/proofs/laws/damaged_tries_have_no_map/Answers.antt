use Rattle.xod_trie.proofs.Damaged.{damaged-trie}
use Rattle.xod_trie.proofs.laws.damaged_tries_have_no_map.Goals as goal

pub returns : goal.returns
returns c = damaged-trie
