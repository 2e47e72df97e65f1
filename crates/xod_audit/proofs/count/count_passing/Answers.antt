use Rattle.xod_audit.proofs.Counting.{counting-begins, counting-goes_on}
use Rattle.xod_audit.proofs.count.count_passing.Goals as goal

pub walk-init : goal.walk-init
walk-init g c = counting-begins c.args.view.now c.first_pair.new.view c.in_ok-found.found (c.in_ok-found.ensures {u = tt}).looks

pub walk-preserved : goal.walk-preserved
walk-preserved g c =
    counting-goes_on c.first_pair.new.view c.walk.view c.passes.new.view c.next_pair.new.view c.walk.found c.in-Some.pair c.walk.count c.in_ok-passes.field-0 c.as_slice.result.now c.in_ok-found-2.found
    c.walk.invariant c.in-Some.is (c.in_ok-passes.ensures {u = tt}).looks c.if-not-branch.false c.as_slice.ensures (c.in_ok-found-2.ensures {u = tt}).looks
