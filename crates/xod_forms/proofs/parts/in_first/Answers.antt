use Rattle.std.proofs.Common.{◌∙◌}
use Rattle.std.specs.Prelude.{not}
use Rattle.std.specs.List.{filter}
use Rattle.xod_base.specs.Evaluation.{has_id, rising}
use Rattle.xod_forms.proofs.parts.in_first.Goals as goal

pub returns : goal.returns
returns c =
    c.in_ok-ids.ensures.exactly
    ∙ (λ i. rising (filter (λ id. not (has_id (c.rising_of-right.ensures.exactly i) id)) (c.rising_of-left.ensures.exactly i)))
    ∙ (c.rising_parts_suffice.ensures c.args.left c.args.right).first
