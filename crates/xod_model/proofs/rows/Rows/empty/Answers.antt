use Rattle.std.proofs.Common.{◌∙◌, ap}
use Rattle.xod_base.specs.Rows.{is_sound}
use Rattle.xod_model.proofs.RowLemmas.{no_rows-sound}
use Rattle.xod_model.proofs.rows.Rows.empty.Goals as goal

pub invariant_of-result : goal.invariant_of-result
invariant_of-result c = ap is_sound c.empty.ensures ∙ no_rows-sound
