use Rattle.std.proofs.Common.{[], ◌∷◌, ◌++◌, ◌∙◌}
use Rattle.xod_tables.specs.Writes.{removed}
use Rattle.xod_tables.specs.declared.trees.TheConstants.{BACK, LINKS}
use Rattle.xod_keys.proofs.CallerLemmas.{two_pushed}
use Rattle.xod_links.proofs.writing.push_link_gone.Goals as goal

pub returns : goal.returns
returns c = two_pushed _ _ _
    (c.in_ok-push_removed.ensures ∙ λ i. c.args.writes.now ++ removed LINKS (c.link_key.ensures i) ∷ [])
    (c.in_ok-push_removed-2.ensures ∙ λ i. c.push_removed.new.writes ++ removed BACK (c.link_key-2.ensures i) ∷ [])
