use Rattle.xod_sets.proofs.CallerLemmas.{parts_suffice}
use Rattle.xod_sets.proofs.laws.rising_parts_suffice.Goals as goal

pub returns : goal.returns
returns c = parts_suffice
