use Rattle.xod_session.proofs.CallerLemmas.{progress-grows}
use Rattle.xod_spaces.proofs.PairLemmas.{turned}
use Rattle.xod_spaces.proofs.tests.turn.Goals as goal

pub returns-clause-both : goal.returns-clause-both
returns-clause-both g c =
    let old = g.S.Space.view c.args.space.now in
    let new = g.S.Space.view c.step-progress.new.space in
    let step = c.step-progress.ensures in
    turned g.O.Local.tells g.O.Local.txn g.O.Local.faults old new (g.met.S.Space.lawful c.step-progress.new.space) step.keeps c.args.mine.now c.prepare.new.self c.step-progress.new.self c.args.other.now c.requires
    c.prepare.ensures.prepares.same.actor step.same.actor step.plays (progress-grows g.O.Local.faults old new c.prepare.new.self c.step-progress.new.self _ step.came)
