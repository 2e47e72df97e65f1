use Rattle.std.proofs.Common.{false}
use Rattle.xod_session.specs.Calls.{IsFresh}
use Rattle.xod_spaces.specs.FaultyTxns.{faulty_txn}
use Rattle.xod_spaces.specs.Pairs.{PlayBoth}
use Rattle.xod_spaces.specs.Views.{faulty_view}
use Rattle.xod_spaces.proofs.tests.turns.halted_after.Given as goal

abbrev pub invariant-loop : goal.invariant-loop
invariant-loop l = PlayBoth (λ one. false) faulty_txn (λ one. one.faults) (faulty_view l.space.first l.space.journal.items l.space.sessions l.space.outside) l.first l.second × IsFresh l.first
