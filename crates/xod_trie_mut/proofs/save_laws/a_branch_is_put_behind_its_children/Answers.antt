use Rattle.xod_trie_mut.proofs.SavingSteps.{put-here}
use Rattle.xod_trie_mut.proofs.save_laws.a_branch_is_put_behind_its_children.Goals as goal

pub returns : goal.returns
returns c places base own before index branch sound is = put-here places base own sound before index branch is
