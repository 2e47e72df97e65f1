use Rattle.std.proofs.Common.{refl}
use Rattle.xod_spaces.proofs.space.FaultySpace.admit.Goals as goal

pub returns-in-Some-clause-refused : goal.returns-in-Some-clause-refused
returns-in-Some-clause-refused c = record { journal_same = refl; why = c.in-Some.ensures.reason c.args.self.now.first c.args.self.now.journal.items c.args.self.now.sessions }
