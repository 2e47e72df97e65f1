use Rattle.std.proofs.Common.{List, ◌∙◌, ap, sym}
use Rattle.std.specs.FinMap.{find, get, get-from_sorted}
use Rattle.xod_base.specs.Values.{bytes_cmp}
use Rattle.xod_overlay.specs.Marks.{Touch, TouchMap}
use Rattle.xod_overlay.specs.Pieces.{joined}
use Rattle.xod_overlay.proofs.sorted.TouchedKeys.get.Goals as goal

pub returns : goal.returns
returns c =
    let key = c.args.key.now in
    c.mark_in.ensures
    ∙ ap (λ (ps : List (List Touch)). find bytes_cmp key (joined ps)) c.as_slice.ensures.value
    ∙ sym (get-from_sorted bytes_cmp (joined c.self.inside.pieces.items) key c.self.invariant.by_key)
    ∙ ap (λ (keys : TouchMap). get keys key) c.self.view_is
