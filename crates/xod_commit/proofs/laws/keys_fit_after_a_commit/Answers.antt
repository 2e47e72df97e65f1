use Rattle.xod_commit.proofs.Touches.{overlaid-fits}
use Rattle.xod_commit.proofs.laws.keys_fit_after_a_commit.Goals as goal

pub returns : goal.returns
returns c = overlaid-fits c.touched_keys_decide.ensures
