use Rattle.std.proofs.Common.{refl, inl, inr}
use Rattle.xod_sets.proofs.Passes.{step_less, step_same, step_greater, ended_both}
use Rattle.xod_sets.proofs.Steps.{stepwise_both}
use Rattle.xod_sets.proofs.sets.numbers_in_both.Goals as goal
use Rattle.xod_sets.proofs.sets.numbers_in_both.Goals.{in_default, in_default-2}

pub loop-first-preserved-in-Less : goal.loop-first-preserved-in-Less
loop-first-preserved-in-Less c =
    step_less record { passes = c.loop-first.invariant; left_is = c.in-Some-Some.ensures.cases.0; right_is = c.in-Some-Some.ensures'.cases.0; order_is = c.cmp.ensures }
    stepwise_both c.in-Less.is c.loop-first.numbers.items refl

pub loop-first-preserved-in_ok-push-in-Equal : goal.loop-first-preserved-in_ok-push-in-Equal
loop-first-preserved-in_ok-push-in-Equal c =
    step_same record { passes = c.loop-first.invariant; left_is = c.in-Some-Some.ensures.cases.0; right_is = c.in-Some-Some.ensures'.cases.0; order_is = c.cmp.ensures }
    stepwise_both c.in-Equal.is c.push.new.self.items c.in_ok-push-in-Equal.ensures.items

pub loop-first-preserved : goal.loop-first-preserved
loop-first-preserved c =
    step_greater record { passes = c.loop-first.invariant; left_is = c.in-Some-Some.ensures.cases.0; right_is = c.in-Some-Some.ensures'.cases.0; order_is = c.cmp.ensures }
    stepwise_both c.in-Greater.is c.loop-first.numbers.items refl

pub returns : goal.returns
returns c = ended_both c.args.a.now c.args.b.now c.loop-first.invariant
    (elim c.match-split_first.branch [ in_default w ↦ inr w.in_default.ensures'.cases | in_default-2 w ↦ inl w.in_default.ensures.cases ])
    c.requires.rises_a
