use Rattle.xod_snapshot.proofs.Answering.{trie-answers}
use Rattle.xod_snapshot.proofs.reads.walk_in.Goals as goal

pub returns-then-strict-clause-answers : goal.returns-then-strict-clause-answers
returns-then-strict-clause-answers g c =
    rw c.if-strict.true (trie-answers _ _ _ _ _ c.next.ensures.least c.next.ensures.damaged_only_where_bytes_are)

pub returns-else-strict-clause-answers : goal.returns-else-strict-clause-answers
returns-else-strict-clause-answers g c =
    rw c.if-strict.false (trie-answers _ _ _ _ _ c.seek.ensures.least c.seek.ensures.damaged_only_where_bytes_are)
