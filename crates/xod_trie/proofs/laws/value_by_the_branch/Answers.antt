use Rattle.xod_trie.proofs.Values.{value_at-by}
use Rattle.xod_trie.proofs.laws.value_by_the_branch.Goals as goal

pub returns : goal.returns
returns c = value_at-by
