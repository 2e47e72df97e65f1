use Rattle.std.proofs.Common.{List, ap, sym, subst, ◌∙◌}
use Rattle.std.specs.Prelude.{T}
use Rattle.std.specs.FinMap.{find, is_sorted}
use Rattle.xod_base.specs.Values.{bytes_cmp}
use Rattle.xod_overlay.specs.Marks.{Touch}
use Rattle.xod_overlay.proofs.Pieced.{find_at, sorted_at}
use Rattle.xod_overlay.proofs.sorted.mark_in.Goals as goal

pub mark-requires : goal.mark-requires
mark-requires c =
    let is = (c.in_ok-piece.ensures {u = tt}).lookup in
    subst (λ (p : List Touch). T (is_sorted bytes_cmp p)) (sym is.1) (sorted_at c.args.pieces.now c.seat_of.result c.in_ok-piece.piece.now c.requires is.3.0)

pub returns : goal.returns
returns c =
    let key = c.args.key.now in
    let is = (c.in_ok-piece.ensures {u = tt}).lookup in
    c.mark.ensures
    ∙ ap (find bytes_cmp key) is.1
    ∙ sym (find_at key c.args.pieces.now c.seat_of.result c.in_ok-piece.piece.now c.seat_of.ensures.seat is.3.0)
