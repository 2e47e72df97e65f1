use Rattle.std.proofs.Common.{◌≡◌, ◌++◌, ◌∷◌, [], length, List, ℕ, arith, sym, ◌∙◌, ap, length-append}
use Rattle.std.specs.List.{concat}
use Rattle.xod_volume.specs.Places.{starts_of}
use Rattle.xod_volume.proofs.Joined.{concat_last, starts_last}
use Rattle.xod_volume.proofs.pieces.Pieces.add.Goals as goal

pub invariant_of-self-2 : goal.invariant_of-self-2
invariant_of-self-2 c =
    let pieces = c.self.inside.list.items in
    let list = c.push_reserved-2.ensures.items ∙ ap (λ (m : List (List ℕ)). m ++ c.in_ok-piece.piece ∷ []) c.reserve.ensures.items in
    let now : concat c.push_reserved-2.new.self.items ≡ concat pieces ++ c.in_ok-piece.piece = ap concat list ∙ concat_last pieces c.in_ok-piece.piece in (
      omega (arith, c.self.invariant.0, c.len.ensures, ap length now, length-append (concat pieces) c.in_ok-piece.piece),
      c.push_reserved.ensures.items ∙ ap (λ (m : List ℕ). m ++ c.self.inside.size ∷ []) (c.reserve-else-is_err.ensures.items ∙ c.self.invariant.1)
          ∙ ap (λ (k : ℕ). starts_of pieces ++ k ∷ []) c.self.invariant.0
          ∙ sym (starts_last pieces c.in_ok-piece.piece)
          ∙ ap starts_of (sym list),
    )

pub returns : goal.returns
returns c =
    ap concat (c.push_reserved-2.ensures.items ∙ ap (λ (m : List (List ℕ)). m ++ c.in_ok-piece.piece ∷ []) c.reserve.ensures.items) ∙ concat_last c.self.inside.list.items c.in_ok-piece.piece
    ∙ ap (λ (m : List ℕ). m ++ c.in_ok-piece.piece) c.self.view_is
    ∙ ap (λ (m : List ℕ). c.args.self.now ++ m) c.in_ok-piece.ensures
