use Rattle.xod_snapshot.proofs.Answering.{trie-answers}
use Rattle.xod_snapshot.proofs.reads.find_in.Goals as goal

pub returns-clause-answers : goal.returns-clause-answers
returns-clause-answers g c = trie-answers _ _ _ _ _ c.find.ensures.value c.find.ensures.damaged_only_where_bytes_are
