use Rattle.std.proofs.Common.{drop, ap, ◌∙◌, ◌+◌}
use Rattle.xod_journal.specs.declared.change.RowChange.TheVariants.{LinkDel}
use Rattle.xod_acts.specs.Making.{with_change}
use Rattle.xod_acts.proofs.Going.{all_behind, dropped}
use Rattle.xod_acts.proofs.plan.Plan.push_links_out_gone.Goals as goal

pub loop-part-preserved : goal.loop-part-preserved
loop-part-preserved c =
    all_behind (λ part. part.number) (λ part. LinkDel c.args.id part.name part.end)
    (drop c.loop-part.part-index c.args.links.now) (drop (c.loop-part.part-index + 1) c.args.links.now) c.part-item.result c.loop-part.self c.push.new.self _
    (dropped c.args.links.now c.loop-part.part-index c.part-item.result c.part-item.result c.loop-part-test.true c.part-item.is)
    (c.in_ok-push.ensures ∙ ap (λ name. with_change c.part-item.result.number
    (LinkDel c.args.id name c.part-item.result.end) c.loop-part.self) c.in_ok-try_clone.ensures.equal)
    c.loop-part.invariant
