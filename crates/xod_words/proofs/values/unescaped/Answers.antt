use Rattle.std.proofs.Common.{◌-◌, arith, sym, ◌∙◌}
use Rattle.xod_words.proofs.TextLemmas.{unescaped-closed, unescaped-end}
use Rattle.xod_words.proofs.values.unescaped.Goals as goal

pub returns-then-is_meant : goal.returns-then-is_meant
returns-then-is_meant c =
    let closed = unescaped-closed c.args.bytes.now c.loop-byte.text c.loop-byte.byte-index (c.loop-byte.left - 1) c.loop-byte.escaped (omega arith) (omega arith) (cc) in
    let is = sym closed ∙ c.loop-byte.invariant.same in
    rw (← is) c.closed.ensures

pub returns : goal.returns
returns c = sym c.loop-byte.invariant.same ∙ unescaped-end c.args.bytes.now c.loop-byte.text c.loop-byte.byte-index c.loop-byte.escaped (omega arith)
