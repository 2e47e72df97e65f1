use Rattle.std.proofs.Common.{List, set, sym, subst, ◌∙◌}
use Rattle.std.specs.Prelude.{T}
use Rattle.std.specs.FinMap.{is_sorted}
use Rattle.xod_base.specs.Values.{bytes_cmp}
use Rattle.xod_overlay.specs.Marks.{Touch}
use Rattle.xod_overlay.specs.Pieces.{IsSeat}
use Rattle.xod_overlay.proofs.Pieced.{sorted_at}
use Rattle.xod_overlay.proofs.Restored.{piece_gone, piece_left, within_some, RestoredIn}
use Rattle.xod_overlay.proofs.sorted.restore_in.Goals as goal

pub restore-requires : goal.restore-requires
restore-requires c =
    subst (λ (p : List Touch). T (is_sorted bytes_cmp p)) (sym c.index_mut.ensures.value)
    (sorted_at c.args.pieces.now.items c.seat_of-at.result c.index_mut.result.now c.requires (within_some c.args.pieces.now.items c.as_slice.result.now c.seat_of-at.result _ c.as_slice.ensures.value c.seat_of-at.ensures.last c.as_slice.ensures.len (sym c.is_empty.ensures ∙ c.if-is_empty.false)))

gone : (c : goal.After-drop-remove) → RestoredIn c.args.pieces.now.items c.remove.new.self.items c.args.key.now c.args.before
gone c =
    let pieces = c.args.pieces.now.items in
    let at = c.seat_of-at.result in
    piece_gone pieces at c.args.key.now c.args.before c.index_mut.result.now c.restore.new.self c.requires
    (subst (λ (ps : List (List Touch)). IsSeat c.args.key.now ps at) c.as_slice.ensures.value c.seat_of-at.ensures.seat)
    (within_some c.args.pieces.now.items c.as_slice.result.now c.seat_of-at.result _ c.as_slice.ensures.value c.seat_of-at.ensures.last c.as_slice.ensures.len (sym c.is_empty.ensures ∙ c.if-is_empty.false))
    c.index_mut.ensures.value c.restore.ensures c.index.result.now c.remove.new.self.items c.index.ensures (sym c.is_empty-2.ensures ∙ c.if-is_empty-2.true) c.remove.ensures.items

left : (c : goal.Else-is_empty-2) → RestoredIn c.args.pieces.now.items (set c.args.pieces.now.items c.seat_of-at.result c.restore.new.self) c.args.key.now c.args.before
left c =
    let pieces = c.args.pieces.now.items in
    let at = c.seat_of-at.result in
    piece_left pieces at c.args.key.now c.args.before c.index_mut.result.now c.restore.new.self c.requires
    (subst (λ (ps : List (List Touch)). IsSeat c.args.key.now ps at) c.as_slice.ensures.value c.seat_of-at.ensures.seat)
    (within_some c.args.pieces.now.items c.as_slice.result.now c.seat_of-at.result _ c.as_slice.ensures.value c.seat_of-at.ensures.last c.as_slice.ensures.len (sym c.is_empty.ensures ∙ c.if-is_empty.false))
    c.index_mut.ensures.value c.restore.ensures c.index.result.now c.index.ensures (sym c.is_empty-2.ensures ∙ c.if-is_empty-2.false)

pub returns-then-is_empty-2-clause-in_pieces : goal.returns-then-is_empty-2-clause-in_pieces
returns-then-is_empty-2-clause-in_pieces c = (gone c).in_pieces

pub returns-then-is_empty-2-clause-touches : goal.returns-then-is_empty-2-clause-touches
returns-then-is_empty-2-clause-touches c = (gone c).touches

pub returns-else-is_empty-2-clause-in_pieces : goal.returns-else-is_empty-2-clause-in_pieces
returns-else-is_empty-2-clause-in_pieces c = (left c).in_pieces

pub returns-else-is_empty-2-clause-touches : goal.returns-else-is_empty-2-clause-touches
returns-else-is_empty-2-clause-touches c = (left c).touches
