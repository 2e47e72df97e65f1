use Rattle.std.proofs.Common.{◌-◌, length, sym, ◌∙◌, arith}
use Rattle.xod_recover.proofs.Opening.{opened-first, opens-followed, opened-more, opened-end}
use Rattle.xod_recover.proofs.ends.open_count.Goals as goal

pub loop-mark-init : goal.loop-mark-init
loop-mark-init c = record { count = opened-first c.args.ends.now; followed = λ lt. absurd (omega (arith, lt)) }

pub loop-mark-preserved : goal.loop-mark-preserved
loop-mark-preserved c =
    let more = sym c.opens.ensures ∙ c.loop-mark-test.true in
    let long = opens-followed c.args.ends.now c.loop-mark.mark more in
    record { count = opened-more c.args.ends.now c.loop-mark.mark more ∙ c.loop-mark.invariant.count; followed = λ lt. omega (arith, long) }

pub returns-clause-count : goal.returns-clause-count
returns-clause-count c =
    let last = opened-end c.args.ends.now c.loop-mark.mark (length c.args.ends.now - c.loop-mark.mark) (sym c.opens.ensures ∙ c.loop-mark-test.false) in
    omega (arith, c.loop-mark.invariant.count, last)
