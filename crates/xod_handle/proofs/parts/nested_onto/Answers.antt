use Rattle.std.proofs.Common.{sym, ap, ◌∙◌}
use Rattle.xod_handle.specs.Forms.{onto, joined}
use Rattle.xod_handle.proofs.Joining.{onto_last}
use Rattle.xod_handle.proofs.parts.nested_onto.Goals as goal

pub loop-part-preserved : goal.loop-part-preserved
loop-part-preserved c =
    ap (onto c.args.join c.pop.new.self.items) (c.in_ok-whole.ensures ∙ ap (λ q. joined c.args.join q c.loop-part.whole) c.into_query.ensures)
    ∙ sym (onto_last c.args.join c.pop.new.self.items c.in-Some.part c.loop-part.whole)
    ∙ ap (λ ps. onto c.args.join ps c.loop-part.whole) (sym c.in-Some.ensures.items)
    ∙ c.loop-part.invariant
