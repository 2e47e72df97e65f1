use Rattle.xod_session.proofs.RowLemmas.{Goes}
use Rattle.xod_session.proofs.row.answer_row.Given as goal

abbrev pub invariant-loop-count : goal.invariant-loop-count
invariant-loop-count g l = Goes g.O.Local.tells g.O.Local.txn g.O.Local.faults l.statements l.until l.initial.said l.initial.txn l.count l.said l.txn
