use Rattle.std.proofs.Common.{drop, ◌∙◌, ◌+◌}
use Rattle.std.specs.Prelude.{Some, None}
use Rattle.xod_journal.specs.declared.change.RowChange.TheVariants.{Prop}
use Rattle.xod_acts.specs.Making.{with_change}
use Rattle.xod_acts.proofs.Going.{all_behind, dropped}
use Rattle.xod_acts.proofs.plan.Plan.push_values_gone.Goals as goal

pub loop-part-preserved : goal.loop-part-preserved
loop-part-preserved c =
    all_behind (λ part. part.number) (λ part. Prop c.args.id part.name (Some part.value) None)
    (drop c.loop-part.part-index c.args.values.now) (drop (c.loop-part.part-index + 1) c.args.values.now) c.part-item.result c.loop-part.self c.push.new.self _
    (dropped c.args.values.now c.loop-part.part-index c.part-item.result c.part-item.result c.loop-part-test.true c.part-item.is)
    (c.in_ok-push.ensures
    ∙ (λ i. with_change c.part-item.result.number
    (Prop c.args.id (c.in_ok-try_clone.ensures.equal i) (Some (c.in_ok-try_clone-2.ensures.equal i)) None) c.loop-part.self))
    c.loop-part.invariant
