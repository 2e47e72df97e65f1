use Rattle.std.proofs.Common.{◌∙◌, ap}
use Rattle.std.specs.FinMap.{insert}
use Rattle.xod_volume.specs.Files.{Files}
use Rattle.xod_volume.proofs.Tables.{entries_put}
use Rattle.xod_volume.proofs.table.FileTable.insert.Goals as goal

pub returns : goal.returns
returns c = entries_put _ _ _ _ c.in_ok-insert.ensures.updates.0 ∙ ap (λ (m : Files). insert m c.args.file c.args.body) c.self.view_is
