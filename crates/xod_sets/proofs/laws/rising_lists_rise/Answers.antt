use Rattle.xod_sets.proofs.Rising.{rises_rising, rising_alone}
use Rattle.xod_sets.proofs.laws.rising_lists_rise.Goals as goal

pub returns : goal.returns
returns c ids = (rises_rising ids, rising_alone ids)
