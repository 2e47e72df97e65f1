use Rattle.std.proofs.Common.{◌≡◌, List, get_or, subst, sym, ◌∙◌, ap, arith, ℕ}
use Rattle.xod_volume.specs.Leases.{without}
use Rattle.xod_volume.proofs.Lent.{without_here, without_next, without_end}
use Rattle.xod_volume.proofs.memory.take_off.Goals as goal

pub returns-then-eq : goal.returns-then-eq
returns-then-eq c =
    c.remove.ensures.items
    ∙ without_here c.args.list.now c.loop-at.lists.items c.loop-at.at c.as_slice.result.now (omega arith) (subst (λ (l : List ℕ). l ≡ get_or c.loop-at.lists.items c.loop-at.at l) (sym c.as_slice.ensures) c.index.ensures) (sym c.if-eq.ensures) c.loop-at.invariant.1
    ∙ ap (without c.args.list.now) c.loop-at.invariant.0

pub loop-at-preserved : goal.loop-at-preserved
loop-at-preserved c =
    (c.loop-at.invariant.0, without_next c.args.list.now c.loop-at.lists.items c.loop-at.at c.as_slice.result.now (omega arith) (subst (λ (l : List ℕ). l ≡ get_or c.loop-at.lists.items c.loop-at.at l) (sym c.as_slice.ensures) c.index.ensures) (sym c.if-eq.ensures) c.loop-at.invariant.1)

pub returns : goal.returns
returns c = without_end c.args.list.now c.loop-at.lists.items c.loop-at.at (omega arith) c.loop-at.invariant.1 ∙ ap (without c.args.list.now) c.loop-at.invariant.0
