use Rattle.std.proofs.Common.{sym, ◌∙◌, arith}
use Rattle.xod_audit.proofs.KeysWritten.{next_absent, next_written, next_large}
use Rattle.xod_audit.proofs.lists.next_of.Goals as goal

pub returns-in-None : goal.returns-in-None
returns-in-None c = next_absent c.args.bytes.now (sym c.read_next.ensures ∙ c.in-None.is)

pub returns-then-next-gt-MOST_LOCALS : goal.returns-then-next-gt-MOST_LOCALS
returns-then-next-gt-MOST_LOCALS c = next_large c.args.bytes.now c.in-Some.next (λ i. let fits = c.type_inv.bytes i in omega (arith, fits)) (sym c.read_next.ensures ∙ c.in-Some.is) (let h = c.if-next-gt-MOST_LOCALS.true in omega (arith, h))

pub returns-else-next-gt-MOST_LOCALS : goal.returns-else-next-gt-MOST_LOCALS
returns-else-next-gt-MOST_LOCALS c = next_written c.args.bytes.now c.in-Some.next (λ i. let fits = c.type_inv.bytes i in omega (arith, fits)) (sym c.read_next.ensures ∙ c.in-Some.is) (let h = c.if-next-gt-MOST_LOCALS.false in omega (arith, h))
