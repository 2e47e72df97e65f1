use Rattle.xod_trie.proofs.Shapes.{same-shape}
use Rattle.xod_trie.proofs.laws.the_map_determines_the_shape.Goals as goal

pub returns : goal.returns
returns c = same-shape
