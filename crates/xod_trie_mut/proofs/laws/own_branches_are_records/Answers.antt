use Rattle.xod_trie_mut.proofs.OwnLemmas.{with_own-rises, with_own-branches}
use Rattle.xod_trie_mut.proofs.laws.own_branches_are_records.Goals as goal

pub returns-clause-rises : goal.returns-clause-rises
returns-clause-rises c = with_own-rises

pub returns-clause-branches : goal.returns-clause-branches
returns-clause-branches c = with_own-branches
