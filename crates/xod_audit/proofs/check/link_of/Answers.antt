use Rattle.std.proofs.Common.{List, ℕ, Some, ap, take, ◌∙◌, arith}
use Rattle.xod_tables.specs.Reading.{of_u32, id_at}
use Rattle.xod_audit.proofs.KeysWritten.{link_written, link_unwritten}
use Rattle.xod_audit.proofs.check.link_of.Goals as goal

pub returns-then-key-ne20 : goal.returns-then-key-ne20
returns-then-key-ne20 c = link_unwritten c.args.key.now c.if-key-ne20.true

pub returns : goal.returns
returns c =
    (λ i. Some (c.first_id.ensures i, (c.first_u32.result, c.first_id-2.result)))
    ∙ link_written c.args.key.now c.first_u32.result c.first_id-2.result c.if-key-ne20.false (λ i. let fits = c.type_inv.key i in omega (arith, fits))
    (c.first_u32.ensures ∙ ap (λ (l : List ℕ). of_u32 (take 4 l)) c.split_at.ensures.back)
    (c.first_id-2.ensures ∙ ap (λ (l : List ℕ). id_at l) c.split_at-2.ensures.back)
