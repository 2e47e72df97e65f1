use Rattle.std.proofs.Common.{false}
use Rattle.xod_spaces.specs.FaultyTxns.{faulty_txn}
use Rattle.xod_spaces.specs.Pairs.{PlayBoth}
use Rattle.xod_spaces.specs.Views.{faulty_view}
use Rattle.xod_spaces.proofs.tests.played.Given as goal

abbrev pub invariant-loop-letter : goal.invariant-loop-letter
invariant-loop-letter l = PlayBoth (λ one. false) faulty_txn (λ one. one.faults) (faulty_view l.space.first l.space.journal.items l.space.sessions l.space.outside) l.first l.second
