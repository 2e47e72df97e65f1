use Rattle.std.proofs.Common.{◌+◌, ◌-◌, ◌/◌, length, get_or, List, ℕ, arith, ◌∙◌, ap}
use Rattle.xod_volume.proofs.Joined.{is_place, start_is, starts_length}
use Rattle.xod_volume.proofs.pieces.place_of.Goals as goal

pub bounds-starts-middle : goal.bounds-starts-middle
bounds-starts-middle c = omega (arith, c.loop-high.invariant.1, c.loop-high-test.true, ap length c.requires.starts ∙ starts_length 0 c.args.pieces.now)

pub loop-high-preserved-then-starts-middle : goal.loop-high-preserved-then-starts-middle
loop-high-preserved-then-starts-middle c =
    let middle = c.loop-high.low + (c.loop-high.high - c.loop-high.low) / 2 in
    let starts = ap (λ (m : List ℕ). get_or m middle 0) c.requires.starts ∙ start_is c.args.pieces.now middle 0 (omega (arith, c.loop-high.invariant.1, c.loop-high-test.true)) in (
      omega (arith, c.loop-high-test.true),
      c.loop-high.invariant.1,
      omega (arith, c.if-starts-middle.true, starts),
      c.loop-high.invariant.3,
    )

pub loop-high-preserved : goal.loop-high-preserved
loop-high-preserved c =
    let middle = c.loop-high.low + (c.loop-high.high - c.loop-high.low) / 2 in
    let starts = ap (λ (m : List ℕ). get_or m middle 0) c.requires.starts ∙ start_is c.args.pieces.now middle 0 (omega (arith, c.loop-high.invariant.1, c.loop-high-test.true)) in (
      omega (arith, c.loop-high-test.true),
      omega (arith, c.loop-high.invariant.1, c.loop-high-test.true),
      c.loop-high.invariant.2,
      omega (arith, c.if-starts-middle.false, starts),
    )

pub bounds-starts-low : goal.bounds-starts-low
bounds-starts-low c = omega (arith, c.loop-high.invariant.0, c.loop-high.invariant.1, ap length c.requires.starts ∙ starts_length 0 c.args.pieces.now)

pub overflow_sub-result : goal.overflow_sub-result
overflow_sub-result c =
    let low = c.loop-high.low in
    omega (arith, c.loop-high.invariant.2, ap (λ (m : List ℕ). get_or m low 0) c.requires.starts ∙ start_is c.args.pieces.now low 0 (omega (arith, c.loop-high.invariant.0, c.loop-high.invariant.1)))

pub returns : goal.returns
returns c =
    let low = c.loop-high.low in
    let starts = ap (λ (m : List ℕ). get_or m low 0) c.requires.starts ∙ start_is c.args.pieces.now low 0 (omega (arith, c.loop-high.invariant.0, c.loop-high.invariant.1)) in
    is_place c.args.pieces.now c.args.at low c.loop-high.high (get_or c.args.starts.now low 0) c.loop-high.invariant.0 (omega (arith, c.loop-high-test.false)) c.loop-high.invariant.1 starts (omega (arith, starts, c.loop-high.invariant.2)) c.loop-high.invariant.3
