use Rattle.std.proofs.Common.{is_some, sym, ap}
use Rattle.xod_volume_fs.proofs.Keeping.{kept_changed}
use Rattle.xod_volume_fs.proofs.folder.Folder.len.Goals as goal

pub returns-in-Some-clause-kept : goal.returns-in-Some-clause-kept
returns-in-Some-clause-kept g c =
    kept_changed _ _ _ _ _ c.in-Some.ensures.value ((c.get_mut.follows.holds c.len.new.self).3 (ap is_some (sym c.in-Some.ensures.value))).0 c.len.ensures.kept
