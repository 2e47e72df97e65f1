use Rattle.std.proofs.Common.{ℕ, ap, ◌∙◌, drop}
use Rattle.xod_overlay.specs.Places.{from, passes}
use Rattle.xod_overlay.proofs.Placed.{drop_place}
use Rattle.xod_overlay.proofs.piece.Piece.touches_from.Goals as goal

pub returns : goal.returns
returns c =
    let test = passes c.args.strict c.args.key.now in
    let slice = c.as_slice-touches.result.now in
    c.split_at.ensures.back
    ∙ ap (λ (n : ℕ). drop n slice) c.place_of.ensures.place
    ∙ drop_place test slice
    ∙ ap (from test) (c.as_slice-touches.ensures.value ∙ c.self.view_is)
