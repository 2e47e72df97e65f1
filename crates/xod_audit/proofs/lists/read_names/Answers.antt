use Rattle.std.proofs.Common.{List, ℕ, [], ◌∷◌, Some, sym, ap, ◌∙◌, length, arith, length-append}
use Rattle.std.specs.Prelude.{◌-◌, ◌+◌}
use Rattle.std.specs.FinMap.{get}
use Rattle.xod_base.specs.Rows.{is_name}
use Rattle.xod_base.specs.Views.{Trees}
use Rattle.xod_tables.specs.Reading.{tree_at}
use Rattle.xod_tables.specs.declared.trees.TheConstants.{NAMES}
use Rattle.xod_audit.specs.Checks.{names_that}
use Rattle.xod_audit.specs.Tests.{names_from}
use Rattle.xod_audit.proofs.Counting.{known}
use Rattle.xod_audit.proofs.Looked.{steady-itself, steady-after}
use Rattle.xod_audit.proofs.Listing.{listing-goes_on, listing-fails, listing-ends, names_over, names_none, names_bad, names_some, is_good, is_bad}
use Rattle.xod_audit.proofs.lists.read_names.Goals as goal

pub returns-in-None-clause-looks : goal.returns-in-None-clause-looks
returns-in-None-clause-looks g c =
    let old = c.args.view.now in
    let looks = (c.in_ok-value_at.ensures {u = tt}).looks in
    listing-ends old c.walk.view c.value_at.new.view c.walk.names c.walk.invariant.0 (steady-after _ _ _ _ looks) (λ told there.
    let t = tree_at (g.T.TreeView.trees old) NAMES in
    names_none t c.args.list c.walk.number (let h = c.walk-test.true in omega (arith, h))
    (ap (get t) (sym c.name_key.ensures) ∙ sym (known old c.walk.view c.value_at.new.view _ c.in_ok-value_at.field-0 c.walk.invariant.0.steady looks told there) ∙ c.in-None.is))

pub returns-in-None-2-clause-looks : goal.returns-in-None-2-clause-looks
returns-in-None-2-clause-looks g c =
    let old = c.args.view.now in
    let looks = (c.in_ok-value_at.ensures {u = tt}).looks in
    listing-fails old c.walk.view c.value_at.new.view c.walk.names c.walk.invariant.0 (steady-after _ _ _ _ looks) (λ told there.
    let t = tree_at (g.T.TreeView.trees old) NAMES in
    names_bad t c.args.list c.walk.number c.in-Some.bytes (let h = c.walk-test.true in omega (arith, h))
    (ap (get t) (sym c.name_key.ensures) ∙ sym (known old c.walk.view c.value_at.new.view _ c.in_ok-value_at.field-0 c.walk.invariant.0.steady looks told there) ∙ c.in-Some.is)
    (ap is_name (sym c.as_slice.ensures) ∙ is_bad c.as_slice.result.now (sym c.in-None-2.is ∙ c.in_ok-name_of-in-Some.ensures {u = tt})))

pub walk-preserved : goal.walk-preserved
walk-preserved g c =
    let old = c.args.view.now in
    let looks = (c.in_ok-value_at.ensures {u = tt}).looks in
    let number = c.walk.number in
    let name = c.in-Some-2.name in
    let good = is_good c.as_slice.result.now name (sym c.in-Some-2.is ∙ c.in_ok-name_of-in-Some.ensures {u = tt}) in
    let pushed = c.in_ok-push-in-Some-2.ensures {u = tt} in
    let below = c.walk-test.true in
    let few = c.walk.invariant.1 in
    let longer = ap (λ (l : List (List ℕ)). length l) pushed ∙ length-append c.walk.names (name ∷ []) in (
      listing-goes_on (λ (ts : Trees). names_that (names_from (tree_at ts NAMES) c.args.list (4096 - (number + 1)) (number + 1))) old c.walk.view c.value_at.new.view c.walk.names name c.push.new.self
          c.walk.invariant.0 (steady-after _ _ _ _ looks) (λ told there.
          let t = tree_at (g.T.TreeView.trees old) NAMES in
          names_some t c.args.list number name (omega (arith, below))
          (ap (get t) (sym c.name_key.ensures) ∙ sym (known old c.walk.view c.value_at.new.view _ c.in_ok-value_at.field-0 c.walk.invariant.0.steady looks told there) ∙ c.in-Some.is ∙ ap (λ (l : List ℕ). Some l) (sym c.as_slice.ensures ∙ good.1))
          (ap is_name (sym good.1) ∙ good.0))
          pushed,
      omega (arith, longer, few),
      omega (arith, below),
    )

pub returns-clause-looks : goal.returns-clause-looks
returns-clause-looks g c =
    let old = c.args.view.now in
    listing-ends old c.walk.view c.walk.view c.walk.names c.walk.invariant.0 (steady-itself _) (λ told there.
    names_over (tree_at (g.T.TreeView.trees old) NAMES) c.args.list c.walk.number (let h = c.walk-test.false in omega (arith, h)))
