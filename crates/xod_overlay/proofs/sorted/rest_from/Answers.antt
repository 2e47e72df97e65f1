use Rattle.std.proofs.Common.{List, ◌++◌, ap, sym, ◌∙◌, length}
use Rattle.xod_overlay.specs.Marks.{Touch}
use Rattle.xod_overlay.specs.Pieces.{joined}
use Rattle.xod_overlay.proofs.Pieced.{sorted_part, from_at, from_none}
use Rattle.xod_overlay.proofs.sorted.rest_from.Goals as goal

pub touches_from-requires : goal.touches_from-requires
touches_from-requires c =
    sorted_part c.args.pieces.now c.seat_of.result c.in-Some.piece.now c.in-Some.later.now c.requires (sym c.split_at.ensures.back ∙ (c.in-Some.ensures {u = tt}).cases.0)

pub returns-in-None : goal.returns-in-None
returns-in-None c =
    c.none.ensures
    ∙ sym (from_none c.args.strict c.args.key.now c.args.pieces.now c.seat_of.result c.seat_of.ensures.last
    (ap (λ (ps : List (List Touch)). length ps) (sym c.split_at.ensures.back) ∙ (c.in-None.ensures {u = tt}).cases))

pub returns-in-Some : goal.returns-in-Some
returns-in-Some c =
    c.new.ensures
    ∙ ap (λ (l : List Touch). l ++ joined c.in-Some.later.now) c.touches_from.ensures
    ∙ sym (from_at c.args.strict c.args.key.now c.args.pieces.now c.seat_of.result c.in-Some.piece.now c.in-Some.later.now c.seat_of.ensures.seat (sym c.split_at.ensures.back ∙ (c.in-Some.ensures {u = tt}).cases.0))
