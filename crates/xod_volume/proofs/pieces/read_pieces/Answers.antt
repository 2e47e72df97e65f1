use Rattle.std.proofs.Common.{◌≡◌, ◌+◌, ◌-◌, ◌++◌, length, take, drop, List, ℕ, arith, sym, ◌∙◌, ap, subst}
use Rattle.std.specs.List.{concat}
use Rattle.xod_volume.specs.Leases.{Filled}
use Rattle.xod_volume.proofs.Joined.{filled_on, filled_full, from_next, concat_apart, concat_more}
use Rattle.xod_volume.proofs.pieces.read_pieces.Goals as goal

pub loop-piece-preserved : goal.loop-piece-preserved
loop-piece-preserved c =
    let i = c.loop-piece.piece-index in
    let pieces = c.args.pieces.now in
    let done = concat (take i pieces) in
    let next : concat (take (i + 1) pieces) ≡ done ++ c.as_slice.result.now = concat_more pieces i c.piece-item.result (omega arith) c.piece-item.is ∙ ap (λ (m : List ℕ). done ++ m) (sym c.as_slice.ensures) in
    let was = c.loop-piece.invariant in (
      subst (λ (m : List ℕ). Filled m c.args.within c.args.out.now c.fill_behind-filled.new.out (c.loop-piece.filled + c.fill_behind-filled.result)) (sym next)
          (filled_on done c.as_slice.result.now c.args.out.now c.loop-piece.out c.fill_behind-filled.new.out c.args.within c.loop-piece.from c.loop-piece.filled c.fill_behind-filled.result was.0 was.2 was.1 c.fill_behind-filled.ensures.first_stay c.fill_behind-filled.ensures.filled),
      c.saturating_sub-from.ensures ∙ ap (λ (k : ℕ). c.loop-piece.from - k) (c.len.ensures ∙ ap length (sym c.as_slice.ensures)) ∙ from_next done c.as_slice.result.now c.args.within c.loop-piece.from was.1 ∙ ap (λ (m : List ℕ). c.args.within - length m) (sym next),
      omega (arith, was.2, c.fill_behind-filled.auto.out),
    )

pub returns-then-filled-out : goal.returns-then-filled-out
returns-then-filled-out c =
    let i = c.loop-piece.piece-index in
    let pieces = c.args.pieces.now in
    subst (λ (m : List ℕ). Filled m c.args.within c.args.out.now c.loop-piece.out c.loop-piece.filled) (sym (concat_apart pieces i))
    (filled_full (concat (take i pieces)) (concat (drop i pieces)) c.args.out.now c.loop-piece.out c.args.within c.loop-piece.filled c.loop-piece.invariant.0 c.loop-piece.invariant.2 (omega (arith, c.if-filled-out.true)))
