use Rattle.std.proofs.Common.{◌≡◌, List, Option, option_copied, sym, ap, ◌∙◌}
use Rattle.std.specs.Borrow.{Bor}
use Rattle.std.specs.FinMap.{empty}
use Rattle.std.specs.Option.{unwrap_or}
use Rattle.xod_overlay.specs.Marks.{TouchMap, touched}
use Rattle.xod_overlay.proofs.Trees.{entries-none}
use Rattle.xod_overlay.proofs.overlay.Overlay.touches.Goals as goal

pub returns-in-None : goal.returns-in-None
returns-in-None c =
    let none : empty ≡ touched c.args.self.now c.args.tree =
    ap (λ (o : Option (Bor TouchMap)). unwrap_or (option_copied o) empty) (sym c.in-None.is) ∙ c.keys_of.ensures
    ∙ ap (λ (l : List TouchMap). touched l c.args.tree) (c.as_slice.ensures.value ∙ c.self.view_is) in
    c.none.ensures ∙ sym (entries-none (touched c.args.self.now c.args.tree) none)
