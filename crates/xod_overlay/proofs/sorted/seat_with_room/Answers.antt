use Rattle.std.proofs.Common.{◌<◌, ◌+◌, List, [], length, get_or, cond, ap, sym, subst, ◌∙◌, arith}
use Rattle.std.specs.Prelude.{T}
use Rattle.std.specs.FinMap.{is_sorted}
use Rattle.xod_base.specs.Values.{bytes_cmp}
use Rattle.xod_overlay.specs.Marks.{Touch}
use Rattle.xod_overlay.specs.Pieces.{begins_by, IsSeat}
use Rattle.xod_overlay.proofs.Pieced.{sorted_at, is_full, half_room, length-with_cut, HasRoom}
use Rattle.xod_overlay.proofs.sorted.seat_with_room.Goals.{After-index, After-half_of}
use Rattle.xod_overlay.proofs.sorted.seat_with_room.Goals as goal

within : (c : After-index) → c.seat_of-at.result < length c.args.pieces.now.items
within c = omega (arith, ap (λ (ps : List (List Touch)). length ps) c.as_slice.ensures.value)

pub is_full_without-requires : goal.is_full_without-requires
is_full_without-requires c =
    let lt = within (goal.at.is_full_without-requires c).After-index in
    subst (λ (p : List Touch). T (is_sorted bytes_cmp p)) (sym c.index.ensures) (sorted_at c.args.pieces.now.items c.seat_of-at.result c.index.result.now c.requires.in_pieces lt)

pub half_of-requires : goal.half_of-requires
half_of-requires c =
    let lt = within (goal.at.half_of-requires c).After-index in
    omega (arith, length-with_cut c.args.pieces.now.items c.seat_of-at.result lt, ap (λ (ps : List (List Touch)). length ps) (c.as_slice-2.ensures.value ∙ c.in_ok-cut_at.ensures {u = tt}))

found : (c : After-half_of) → HasRoom c.args.pieces.now.items c.cut_at.new.pieces.items c.args.key.now c.half_of.result
found c =
    let key = c.args.key.now in
    let pieces = c.args.pieces.now.items in
    let at = c.seat_of-at.result in
    let lt : at < length pieces = omega (arith, ap (λ (ps : List (List Touch)). length ps) c.as_slice.ensures.value) in
    let seat = subst (λ (ps : List (List Touch)). IsSeat key ps at) c.as_slice.ensures.value c.seat_of-at.ensures.seat in
    let full = is_full key pieces at c.index.result.now lt c.index.ensures (sym c.is_full_without.ensures ∙ c.if-not-is_full_without.false) in
    let next = c.half_of.ensures ∙ ap (λ (ps : List (List Touch)). cond (begins_by key (get_or ps (at + 1) [])) (at + 1) at) (c.as_slice-2.ensures.value ∙ c.in_ok-cut_at.ensures {u = tt}) in
    subst (λ (ps : List (List Touch)). HasRoom pieces ps key c.half_of.result) (sym (c.in_ok-cut_at.ensures {u = tt}))
    (half_room key pieces at c.requires.in_pieces seat lt full c.half_of.result next)

pub returns-clause-in_pieces : goal.returns-clause-in_pieces
returns-clause-in_pieces c = (found c).in_pieces

pub returns-clause-same : goal.returns-clause-same
returns-clause-same c = (found c).same

pub returns-clause-seat : goal.returns-clause-seat
returns-clause-seat c = (found c).seat

pub returns-clause-within : goal.returns-clause-within
returns-clause-within c = (found c).within

pub returns-clause-room : goal.returns-clause-room
returns-clause-room c = (found c).room
