use Rattle.std.proofs.Common.{◌∙◌}
use Rattle.std.specs.Ordering.{ordering_then}
use Rattle.xod_model.specs.Keys.{link_of}
use Rattle.xod_model.proofs.KeyLemmas.{link_cmp-fields}
use Rattle.xod_model.proofs.keyed.order.Goals as goal

pub returns : goal.returns
returns c =
    c.then-2.ensures
    ∙ (λ i. ordering_then (c.cmp.ensures i) ((c.then.ensures ∙ (λ j. ordering_then (c.cmp-names.ensures j) (c.cmp-targets.ensures j))) i))
    ∙ link_cmp-fields (link_of c.args.key) (link_of c.args.other)
