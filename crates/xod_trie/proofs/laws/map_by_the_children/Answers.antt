use Rattle.xod_trie.proofs.Values.{map-down, map-up}
use Rattle.xod_trie.proofs.laws.map_by_the_children.Goals as goal

pub returns : goal.returns
returns c records at branch is = (λ some. map-down records at branch some is, map-up records at branch is)
