use Rattle.xod_overlay.proofs.Marked.{touched_decide}
use Rattle.xod_overlay.proofs.laws.touched_keys_decide.Goals as goal

pub returns : goal.returns
returns c = touched_decide
