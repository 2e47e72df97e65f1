use Rattle.xod_overlay.proofs.Marked.{puts_are_seen}
use Rattle.xod_overlay.proofs.laws.puts_show.Goals as goal

pub returns : goal.returns
returns c = puts_are_seen
