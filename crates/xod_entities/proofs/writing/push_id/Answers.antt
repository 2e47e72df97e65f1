use Rattle.std.proofs.Common.{ℕ, [], ◌∷◌, ◌++◌, ◌+◌, ◌∙◌, ap}
use Rattle.xod_tables.specs.Keys.{u64}
use Rattle.xod_tables.specs.Writes.{put}
use Rattle.xod_tables.specs.declared.trees.TheConstants.{ENTITIES, NEXT}
use Rattle.xod_keys.proofs.CallerLemmas.{two_pushed}
use Rattle.xod_entities.proofs.writing.push_id.Goals as goal

pub returns : goal.returns
returns c = two_pushed _ _ _
    (c.in_ok-push_put.ensures ∙ λ i. c.args.writes.now ++ put ENTITIES (c.entity_key.ensures i) [] ∷ [])
    (c.in_ok-push_put-2.ensures
    ∙ λ i. c.push_put.new.writes ++ put NEXT (c.next_key.ensures i) ((c.to_be_bytes.ensures ∙ ap (λ (n : ℕ). u64 (n + 1)) c.from-next.ensures) i) ∷ [])
