use Rattle.std.proofs.Common.{sym, ◌∙◌, ap}
use Rattle.std.specs.FinMap.{get}
use Rattle.xod_volume.specs.Files.{Files}
use Rattle.xod_volume.proofs.Tables.{get_entries}
use Rattle.xod_volume.proofs.table.FileTable.body.Goals as goal

pub returns : goal.returns
returns c = c.get.ensures.value ∙ sym (get_entries _ _) ∙ ap (λ (m : Files). get m c.args.file) c.self.view_is
