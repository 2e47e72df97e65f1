use Rattle.xod_log.proofs.Claims.{numbers-read}
use Rattle.xod_log.proofs.laws.numbers_are_read_back.Goals as goal

pub returns : goal.returns
returns c = numbers-read
