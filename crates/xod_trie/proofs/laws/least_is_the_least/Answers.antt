use Rattle.xod_trie.proofs.Leasts.{least-is, least-none}
use Rattle.xod_trie.proofs.laws.least_is_the_least.Goals as goal

pub returns-clause-some : goal.returns-clause-some
returns-clause-some c = least-is

pub returns-clause-none : goal.returns-clause-none
returns-clause-none c = least-none
