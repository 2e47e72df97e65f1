use Rattle.std.proofs.Common.{◌∙◌}
use Rattle.xod_volume.proofs.Crashed.{only_start}
use Rattle.xod_volume.proofs.memory.MemoryVolume.failing.Goals as goal

pub returns-clause-only : goal.returns-clause-only
returns-clause-only c = λ left image. only_start _ left _ c.in_ok-on.ensures.calls image ∙ c.in_ok-on.ensures.start ∙ c.new.ensures
