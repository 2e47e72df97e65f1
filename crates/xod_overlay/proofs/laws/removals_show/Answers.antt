use Rattle.xod_overlay.proofs.Marked.{removals_are_seen}
use Rattle.xod_overlay.proofs.laws.removals_show.Goals as goal

pub returns : goal.returns
returns c = removals_are_seen
