use Rattle.xod_cache.proofs.KindLemmas.{kinds-follow}
use Rattle.xod_cache.proofs.laws.kinds_follow.Goals as goal

pub returns : goal.returns
returns c = kinds-follow
