use Rattle.std.proofs.Common.{List, set, ap, sym, subst, ◌∙◌}
use Rattle.std.specs.Prelude.{T}
use Rattle.std.specs.FinMap.{find, is_sorted, put}
use Rattle.xod_base.specs.Values.{bytes_cmp}
use Rattle.xod_overlay.specs.Marks.{Touch}
use Rattle.xod_overlay.proofs.Pieced.{find_at, sorted_at, put_at, PutIn}
use Rattle.xod_overlay.proofs.sorted.exchange_in.Goals as goal

pub exchange-requires : goal.exchange-requires
exchange-requires c =
    let room = c.in_ok-at.ensures {u = tt} in
    subst (λ (p : List Touch). T (is_sorted bytes_cmp p)) (sym c.index_mut.ensures.value) (sorted_at c.seat_with_room.new.pieces.items c.in_ok-at.at c.index_mut.result.now room.in_pieces room.within)

there : (c : goal.In_ok-before) → PutIn c.seat_with_room.new.pieces.items (set c.seat_with_room.new.pieces.items c.in_ok-at.at c.exchange.new.self) c.args.key.now c.args.mark
there c =
    let room = c.in_ok-at.ensures {u = tt} in
    put_at c.seat_with_room.new.pieces.items c.in_ok-at.at c.args.key.now c.args.mark c.index_mut.result.now c.exchange.new.self room.in_pieces room.seat room.within room.room c.index_mut.ensures.value (c.in_ok-before.ensures {u = tt}).touches

pub returns-clause-in_pieces : goal.returns-clause-in_pieces
returns-clause-in_pieces c = (there c).in_pieces

pub returns-clause-touches : goal.returns-clause-touches
returns-clause-touches c = (there c).touches ∙ ap (put bytes_cmp c.args.key.now c.args.mark) (c.in_ok-at.ensures {u = tt}).same

pub returns-clause-before : goal.returns-clause-before
returns-clause-before c =
    let key = c.args.key.now in
    let room = c.in_ok-at.ensures {u = tt} in
    (c.in_ok-before.ensures {u = tt}).before
    ∙ ap (find bytes_cmp key) c.index_mut.ensures.value
    ∙ sym (find_at key c.seat_with_room.new.pieces.items c.in_ok-at.at c.index_mut.result.now room.seat room.within)
    ∙ ap (find bytes_cmp key) room.same
