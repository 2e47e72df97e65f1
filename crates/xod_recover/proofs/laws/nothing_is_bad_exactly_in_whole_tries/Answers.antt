use Rattle.xod_recover.proofs.Wholes.{none-whole, whole-none}
use Rattle.xod_recover.proofs.laws.nothing_is_bad_exactly_in_whole_tries.Goals as goal

pub returns : goal.returns
returns c records has_body naming at = (none-whole records has_body naming at, whole-none records has_body naming at)
