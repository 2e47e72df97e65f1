use Rattle.xod_volume_fs.proofs.Keeping.{stay_by}
use Rattle.xod_volume_fs.proofs.store.Store.len.Goals as goal

pub returns-in-Some-clause-kept : goal.returns-in-Some-clause-kept
returns-in-Some-clause-kept g c file bytes e = stay_by _ _ _ c.in-Some.is c.len.ensures.kept file bytes (c.find.ensures.kept file bytes e)
