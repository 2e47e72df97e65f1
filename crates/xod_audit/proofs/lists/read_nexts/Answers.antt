use Rattle.std.proofs.Common.{Some, None, sym, ap, ◌∙◌, arith}
use Rattle.std.specs.Prelude.{◌-◌, ◌+◌}
use Rattle.std.specs.FinMap.{get}
use Rattle.xod_base.specs.Views.{Trees}
use Rattle.xod_tables.specs.Reading.{tree_at}
use Rattle.xod_tables.specs.declared.trees.TheConstants.{NEXT}
use Rattle.xod_audit.specs.Tests.{next_in, nexts_from}
use Rattle.xod_audit.proofs.Counting.{known}
use Rattle.xod_audit.proofs.Looked.{steady-itself, steady-after}
use Rattle.xod_audit.proofs.Listing.{listing-goes_on, listing-fails, listing-ends, nexts_over, nexts_none, nexts_some}
use Rattle.xod_audit.proofs.lists.read_nexts.Goals as goal

pub returns-in-None : goal.returns-in-None
returns-in-None g c =
    let old = c.args.view.now in
    let looks = (c.in_ok-value_at.ensures {u = tt}).looks in
    record {
      looks = listing-fails old c.walk.view c.value_at.new.view c.walk.nexts c.walk.invariant.0 (steady-after _ _ _ _ looks) (λ told there.
          let t = tree_at (g.T.TreeView.trees old) NEXT in
          nexts_none t c.args.count c.walk.kind c.walk-test.true
          (ap (get t) (sym c.next_key.ensures) ∙ sym (known old c.walk.view c.value_at.new.view _ c.in_ok-value_at.field-0 c.walk.invariant.0.steady looks told there) ∙ c.in-None.is));
    }

pub returns-in-None-next_of : goal.returns-in-None-next_of
returns-in-None-next_of g c =
    let old = c.args.view.now in
    let looks = (c.in_ok-value_at.ensures {u = tt}).looks in
    record {
      looks = listing-fails old c.walk.view c.value_at.new.view c.walk.nexts c.walk.invariant.0 (steady-after _ _ _ _ looks) (λ told there.
          let t = tree_at (g.T.TreeView.trees old) NEXT in
          nexts_some t c.args.count c.walk.kind c.in-Some.bytes None c.walk-test.true
          (ap (get t) (sym c.next_key.ensures) ∙ sym (known old c.walk.view c.value_at.new.view _ c.in_ok-value_at.field-0 c.walk.invariant.0.steady looks told there) ∙ c.in-Some.is)
          (ap next_in (sym c.as_slice.ensures) ∙ sym c.next_of.ensures ∙ c.in-None-next_of.is));
    }

pub walk-preserved : goal.walk-preserved
walk-preserved g c =
    let old = c.args.view.now in
    let looks = (c.in_ok-value_at.ensures {u = tt}).looks in
    let kind = c.walk.kind in
    let below = c.walk-test.true in (
      listing-goes_on (λ (ts : Trees). nexts_from (tree_at ts NEXT) (c.args.count - (kind + 1)) (kind + 1)) old c.walk.view c.value_at.new.view c.walk.nexts c.in-Some-next_of.next c.push.new.self
          c.walk.invariant.0 (steady-after _ _ _ _ looks) (λ told there.
          let t = tree_at (g.T.TreeView.trees old) NEXT in
          nexts_some t c.args.count kind c.in-Some.bytes (Some c.in-Some-next_of.next) c.walk-test.true
          (ap (get t) (sym c.next_key.ensures) ∙ sym (known old c.walk.view c.value_at.new.view _ c.in_ok-value_at.field-0 c.walk.invariant.0.steady looks told there) ∙ c.in-Some.is)
          (ap next_in (sym c.as_slice.ensures) ∙ sym c.next_of.ensures ∙ c.in-Some-next_of.is))
          (c.in_ok-push-in-Some-next_of.ensures {u = tt}),
      omega (arith, below),
    )

pub returns : goal.returns
returns g c =
    let old = c.args.view.now in
    record {
      looks = listing-ends old c.walk.view c.walk.view c.walk.nexts c.walk.invariant.0 (steady-itself _) (λ told there.
          nexts_over (tree_at (g.T.TreeView.trees old) NEXT) c.args.count c.walk.kind (let h = c.walk-test.false in omega (arith, h)));
    }
