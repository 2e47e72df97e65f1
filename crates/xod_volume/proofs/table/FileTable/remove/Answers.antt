use Rattle.std.proofs.Common.{◌∙◌, ap}
use Rattle.std.specs.FinMap.{remove}
use Rattle.xod_volume.specs.Files.{Files}
use Rattle.xod_volume.proofs.Tables.{entries_gone}
use Rattle.xod_volume.proofs.table.FileTable.remove.Goals as goal

pub returns : goal.returns
returns c = entries_gone _ _ _ c.remove.ensures.updates.0 ∙ ap (λ (m : Files). remove m c.args.file) c.self.view_is
