use Rattle.std.proofs.Common.{rules}
use Rattle.xod_estxn.proofs.over.show_seen.Goals as goal

pub returns-clause-keeps : goal.returns-clause-keeps
returns-clause-keeps g c =
    let keeps = c.show.ensures.keeps in
    record { tells_same = search rules; commit_same = search rules; refs_same = search rules; never_falls = search rules }
