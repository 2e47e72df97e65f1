use Rattle.std.proofs.Common.{[], ◌∷◌, ◌++◌, ◌∙◌}
use Rattle.xod_tables.specs.Writes.{put}
use Rattle.xod_tables.specs.declared.trees.TheConstants.{NAMES, NUMBERS}
use Rattle.xod_keys.proofs.CallerLemmas.{two_pushed}
use Rattle.xod_names.proofs.writing.push_name.Goals as goal

pub returns : goal.returns
returns c = two_pushed _ _ _
    (c.in_ok-push_put.ensures ∙ λ i. c.args.writes.now ++ put NAMES (c.name_key.ensures i) (c.as_bytes.ensures.bytes i) ∷ [])
    (c.in_ok-push_put-2.ensures ∙ λ i. c.push_put.new.writes ++ put NUMBERS ((c.as_slice.ensures ∙ c.in_ok-key.ensures) i) (c.to_be_bytes.ensures i) ∷ [])
