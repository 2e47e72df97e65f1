use Rattle.std.proofs.Common.{ℕ, List, ◌∙◌, ap, slice_get}
use Rattle.xod_base.specs.Views.{not_below}
use Rattle.xod_overlay.specs.Marks.{Touch}
use Rattle.xod_overlay.specs.Places.{mark_at, place}
use Rattle.xod_overlay.proofs.Placed.{found_at}
use Rattle.xod_overlay.proofs.piece.Piece.mark.Goals as goal

pub returns : goal.returns
returns c =
    let key = c.args.key.now in
    let es = c.args.self.now in
    c.mark_of_key.ensures
    ∙ ap (λ (l : List Touch). mark_at key (slice_get l c.place_of-at.result)) (c.as_slice-2.ensures.value ∙ c.self.view_is)
    ∙ ap (λ (n : ℕ). mark_at key (slice_get es n)) (c.place_of-at.ensures.place ∙ ap (place (not_below key)) (c.as_slice.ensures.value ∙ c.self.view_is))
    ∙ found_at key es c.requires
