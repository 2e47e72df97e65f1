use Rattle.std.proofs.Common.{Some, ap, ◌∙◌, arith}
use Rattle.xod_audit.proofs.KeysWritten.{entity_written, entity_unwritten}
use Rattle.xod_audit.proofs.check.id_of.Goals as goal

pub returns-then-key-ne8 : goal.returns-then-key-ne8
returns-then-key-ne8 c = entity_unwritten c.args.key.now c.if-key-ne8.true

pub returns : goal.returns
returns c = ap Some c.first_id.ensures ∙ entity_written c.args.key.now c.if-key-ne8.false (λ i. let fits = c.type_inv.key i in omega (arith, fits))
