use Rattle.std.proofs.Common.{take, sym, ◌∙◌, ap, arith, List, ℕ, ◌++◌}
use Rattle.std.specs.List.{concat}
use Rattle.xod_volume.proofs.Joined.{concat_more}
use Rattle.xod_volume.proofs.pieces.Pieces.copied.Goals as goal

pub loop-piece-preserved : goal.loop-piece-preserved
loop-piece-preserved c =
    let done = concat (take c.loop-piece.piece-index c.deref-piece-items.result.now) in
    c.in_ok-extend_from_slice.ensures.items
    ∙ ap (λ (m : List ℕ). m ++ c.as_slice.result.now) c.loop-piece.invariant
    ∙ ap (λ (m : List ℕ). done ++ m) c.as_slice.ensures
    ∙ sym (concat_more c.deref-piece-items.result.now c.loop-piece.piece-index c.piece-item.result (omega arith) c.piece-item.is)
