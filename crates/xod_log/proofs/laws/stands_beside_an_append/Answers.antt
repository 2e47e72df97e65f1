use Rattle.xod_log.proofs.Rolling.{append_stands}
use Rattle.xod_log.proofs.laws.stands_beside_an_append.Goals as goal

pub returns : goal.returns
returns g c log next count body ends before after lt others passes = append_stands log next count body ends _ _ _ _ _ _ lt others passes
