use Rattle.std.proofs.Common.{rules}
use Rattle.xod_estxn.proofs.over.evaluate_seen.Goals as goal

pub returns-clause-keeps : goal.returns-clause-keeps
returns-clause-keeps g c =
    let keeps = c.evaluate.ensures.keeps in
    record { tells_same = search rules; commit_same = search rules; refs_same = search rules; never_falls = search rules }
