use Rattle.std.proofs.Common.{rules}
use Rattle.xod_estxn.proofs.over.expand_over.Goals as goal

pub returns-clause-keeps : goal.returns-clause-keeps
returns-clause-keeps g c =
    let keeps = c.expand_seen.ensures.keeps in
    let before = c.requires.trees_are in
    let now = c.expand_seen.new.view.trees_are in
    record { tells_same = search rules; trees_same = search rules; commit_same = search rules; refs_same = search rules; never_falls = search rules }
