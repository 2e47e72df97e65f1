use Rattle.std.proofs.Common.{◌∙◌, ap}
use Rattle.std.specs.FinMap.{len}
use Rattle.xod_volume.specs.Files.{Files}
use Rattle.xod_volume.proofs.Tables.{count_is}
use Rattle.xod_volume.proofs.table.FileTable.count.Goals as goal

pub returns-clause-number : goal.returns-clause-number
returns-clause-number c = c.len.ensures.len ∙ count_is _ c.len.ensures.ordered ∙ ap (λ (m : Files). len m) c.self.view_is
