use Rattle.std.proofs.Common.{sym, ap, ◌∙◌, arith, le-ltb}
use Rattle.std.specs.Prelude.{nat_lt}
use Rattle.xod_audit.proofs.KeysWritten.{next_above, next_below}
use Rattle.xod_audit.proofs.check.is_drawn.Goals as goal

pub returns-then-kind-nexts : goal.returns-then-kind-nexts
returns-then-kind-nexts c =
    let above = next_above c.args.nexts.now c.args.id.kind (let h = c.if-kind-nexts.true in omega (arith, h)) in
    sym (ap (nat_lt c.args.id.local) above ∙ le-ltb c.args.id.local 0 (omega arith))

pub returns : goal.returns
returns c =
    let below = next_below c.args.nexts.now c.args.id.kind (let h = c.if-kind-nexts.false in omega (arith, h)) in
    λ i. nat_lt (c.from.ensures i) (sym below i)
