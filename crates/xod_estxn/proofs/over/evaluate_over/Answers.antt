use Rattle.std.proofs.Common.{rules}
use Rattle.xod_estxn.proofs.over.evaluate_over.Goals as goal

pub returns-clause-keeps : goal.returns-clause-keeps
returns-clause-keeps g c =
    let keeps = c.evaluate_seen.ensures.keeps in
    let before = c.requires in
    let now = c.evaluate_seen.new.view.trees_are in
    record { tells_same = search rules; trees_same = search rules; commit_same = search rules; refs_same = search rules; never_falls = search rules }
