use Rattle.xod_volume_fs.proofs.Keeping.{stay_by}
use Rattle.xod_volume_fs.proofs.store.Store.share_one.Goals as goal

pub returns-in-Some-clause-kept : goal.returns-in-Some-clause-kept
returns-in-Some-clause-kept g c = stay_by _ _ _ c.in-Some.is c.share.ensures.kept
