use Rattle.std.proofs.Common.{refl, inl, inr}
use Rattle.xod_sets.proofs.Passes.{step_less, step_same, step_greater, ended_first}
use Rattle.xod_sets.proofs.Steps.{stepwise_first}
use Rattle.xod_sets.proofs.sets.numbers_in_first.Goals as goal
use Rattle.xod_sets.proofs.sets.numbers_in_first.Goals.{in_default, in_default-2}

pub loop-first-preserved-in_ok-push-in-Less : goal.loop-first-preserved-in_ok-push-in-Less
loop-first-preserved-in_ok-push-in-Less c =
    step_less record { passes = c.loop-first.invariant; left_is = c.in-Some-Some.ensures.cases.0; right_is = c.in-Some-Some.ensures'.cases.0; order_is = c.cmp.ensures }
    stepwise_first c.in-Less.is c.push.new.self.items c.in_ok-push-in-Less.ensures.items

pub loop-first-preserved-in-Equal : goal.loop-first-preserved-in-Equal
loop-first-preserved-in-Equal c =
    step_same record { passes = c.loop-first.invariant; left_is = c.in-Some-Some.ensures.cases.0; right_is = c.in-Some-Some.ensures'.cases.0; order_is = c.cmp.ensures }
    stepwise_first c.in-Equal.is c.loop-first.numbers.items refl

pub loop-first-preserved : goal.loop-first-preserved
loop-first-preserved c =
    step_greater record { passes = c.loop-first.invariant; left_is = c.in-Some-Some.ensures.cases.0; right_is = c.in-Some-Some.ensures'.cases.0; order_is = c.cmp.ensures }
    stepwise_first c.in-Greater.is c.loop-first.numbers.items refl

pub returns : goal.returns
returns c = ended_first c.args.a.now c.args.b.now c.loop-first.invariant
    (elim c.match-split_first.branch [ in_default w ↦ inr w.in_default.ensures'.cases | in_default-2 w ↦ inl w.in_default.ensures.cases ])
    c.requires.rises_a c.extend_from_slice.new.self.items c.in_ok-extend_from_slice.ensures.items
