use Rattle.std.proofs.Common.{List, ap, ◌∙◌}
use Rattle.std.specs.FinMap.{from_sorted}
use Rattle.xod_base.specs.Values.{bytes_cmp}
use Rattle.xod_overlay.specs.Marks.{Touch}
use Rattle.xod_overlay.specs.Pieces.{joined}
use Rattle.xod_overlay.proofs.Trees.{no_touches}
use Rattle.xod_overlay.proofs.sorted.TouchedKeys.new.Goals as goal

pub returns : goal.returns
returns c = ap (λ (ps : List (List Touch)). from_sorted {R = bytes_cmp} (joined ps)) c.new.ensures.items ∙ no_touches
