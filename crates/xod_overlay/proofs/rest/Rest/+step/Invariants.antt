use Rattle.std.proofs.Common.{length}
use Rattle.xod_overlay.proofs.rest.Rest.+step.Given as goal

abbrev pub decreases-step : goal.decreases-step
decreases-step l = length l.self.later.now
