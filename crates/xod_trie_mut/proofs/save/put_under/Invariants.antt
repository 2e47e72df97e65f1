use Rattle.xod_trie_mut.proofs.SavingEnds.{to_come}
use Rattle.xod_trie_mut.proofs.SavingStacks.{State}
use Rattle.xod_trie_mut.proofs.save.put_under.Given as goal

abbrev pub invariant-ahead : goal.invariant-ahead
invariant-ahead g l = State g.K.Keep.place g.K.Keep.with_last g.K.Keep.names g.K.Keep.takes l.own l.initial.index l.initial.keeper l.keeper l.top l.stack.items

abbrev pub decreases-ahead : goal.decreases-ahead
decreases-ahead g l = to_come l.own l.top l.stack.items
