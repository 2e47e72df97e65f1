use Rattle.xod_writes.proofs.Following.{follow_all}
use Rattle.xod_writes.proofs.laws.tables_follow_all_changes.Goals as goal

pub returns : goal.returns
returns c = follow_all c.tables_follow_changes.ensures
