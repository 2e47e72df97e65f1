use Rattle.std.proofs.Common.{ap, sym}
use Rattle.xod_journal.specs.Standing.{Newest}
use Rattle.xod_model.proofs.PlainLemmas.{plain-newest}
use Rattle.xod_model.proofs.plain.PlainSpace.commit.Goals as goal

pub returns : goal.returns
returns c = sym (ap (λ (n : Newest). n.commit) (plain-newest _ _ _ _ _ _ _ _ c.args.self.now.kept))
