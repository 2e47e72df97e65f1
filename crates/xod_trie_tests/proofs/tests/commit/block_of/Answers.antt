use Rattle.std.proofs.Common.{ap}
use Rattle.xod_commit.specs.Blocks.{all_begin_before, have_tree_numbers}
use Rattle.xod_trie_tests.proofs.NoRoots.{none-listed}
use Rattle.xod_trie_tests.proofs.tests.commit.block_of.Goals as goal

pub build_block-requires-clause-numbered : goal.build_block-requires-clause-numbered
build_block-requires-clause-numbered c = ap have_tree_numbers (none-listed c.new.result c.new.ensures)

pub build_block-requires-clause-below : goal.build_block-requires-clause-below
build_block-requires-clause-below c = ap (all_begin_before (record { file = 0; at = 0 })) (none-listed c.new.result c.new.ensures)
