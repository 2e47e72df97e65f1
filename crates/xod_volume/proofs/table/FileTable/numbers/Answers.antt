use Rattle.std.proofs.Common.{sym, ◌∙◌, ap}
use Rattle.std.specs.FinMap.{keys}
use Rattle.xod_volume.specs.Files.{Files}
use Rattle.xod_volume.proofs.Tables.{keys_are}
use Rattle.xod_volume.proofs.table.FileTable.numbers.Goals as goal

pub returns : goal.returns
returns c = c.in_ok-keys_of.ensures.items ∙ sym (keys_are _ c.keys_of.ensures.ordered) ∙ ap (λ (m : Files). keys m) c.self.view_is
