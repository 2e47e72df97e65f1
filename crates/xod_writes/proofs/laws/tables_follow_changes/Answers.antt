use Rattle.xod_writes.proofs.Following.{follow}
use Rattle.xod_writes.proofs.laws.tables_follow_changes.Goals as goal

pub returns : goal.returns
returns c = follow c.same_is_equal.ensures
