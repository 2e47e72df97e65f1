use Rattle.std.proofs.Common.{ℕ, List, Option, option_copied, slice_get, sym, ap, ◌∙◌, true}
use Rattle.std.specs.Borrow.{Bor}
use Rattle.std.specs.FinMap.{entries}
use Rattle.xod_overlay.specs.Marks.{Touch, above_any, first_touch, touched}
use Rattle.xod_overlay.specs.Places.{passes}
use Rattle.xod_overlay.proofs.Placed.{first_from, first_of_all}
use Rattle.xod_overlay.proofs.overlay.Overlay.next_touched.Goals as goal

pub returns-in-None : goal.returns-in-None
returns-in-None c =
    let es = entries (touched c.args.self.now c.args.tree) in
    c.first_of.ensures
    ∙ ap (λ (l : List Touch). slice_get l 0) c.touches.ensures
    ∙ first_of_all es
    ∙ ap (λ (o : Option (Bor (List ℕ))). first_touch (above_any (option_copied o)) es) (sym c.in-None.is)

pub returns-in-Some : goal.returns-in-Some
returns-in-Some c =
    let es = entries (touched c.args.self.now c.args.tree) in
    c.first_of-in-Some.ensures
    ∙ ap (λ (l : List Touch). slice_get l 0) c.touches_from.ensures
    ∙ first_from (passes true c.in-Some.key.now) es
    ∙ ap (λ (o : Option (Bor (List ℕ))). first_touch (above_any (option_copied o)) es) (sym c.in-Some.is)
