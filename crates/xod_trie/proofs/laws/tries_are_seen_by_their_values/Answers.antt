use Rattle.xod_trie.proofs.Maps.{trie_values}
use Rattle.xod_trie.proofs.laws.tries_are_seen_by_their_values.Goals as goal

pub returns : goal.returns
returns c = trie_values
