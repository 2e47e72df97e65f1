use Rattle.std.proofs.Common.{List, ℕ, Some, ap, take, ◌∙◌, arith}
use Rattle.xod_tables.specs.Reading.{of_u32}
use Rattle.xod_audit.proofs.KeysWritten.{prop_written, prop_unwritten}
use Rattle.xod_audit.proofs.check.prop_of.Goals as goal

pub returns-then-key-ne12 : goal.returns-then-key-ne12
returns-then-key-ne12 c = prop_unwritten c.args.key.now c.if-key-ne12.true

pub returns : goal.returns
returns c =
    (λ i. Some (c.first_id.ensures i, c.first_u32.result))
    ∙ prop_written c.args.key.now c.first_u32.result c.if-key-ne12.false (λ i. let fits = c.type_inv.key i in omega (arith, fits))
    (c.first_u32.ensures ∙ ap (λ (l : List ℕ). of_u32 (take 4 l)) c.split_at.ensures.back)
