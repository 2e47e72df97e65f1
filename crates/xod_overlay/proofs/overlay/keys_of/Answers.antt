use Rattle.std.proofs.Common.{arith}
use Rattle.std.specs.FinMap.{empty}
use Rattle.xod_overlay.proofs.overlay.keys_of.Goals as goal

pub returns : goal.returns
returns c = c.get.ensures.lookup.4 (omega arith) empty
