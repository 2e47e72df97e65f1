use Rattle.std.proofs.Common.{List, sym, ◌∙◌, ap}
use Rattle.std.specs.FinMap.{get}
use Rattle.xod_volume.specs.Files.{Files}
use Rattle.xod_volume.specs.declared.history.Call.{Call}
use Rattle.xod_volume.specs.Record.{crashed_at}
use Rattle.xod_volume.proofs.Tables.{same_files}
use Rattle.xod_volume.proofs.Crashed.{only_start, crashed_image}
use Rattle.xod_volume.proofs.memory.MemoryVolume.crash.Goals as goal

pub on-requires : goal.on-requires
on-requires c = same_files _ _ (λ file. c.in_ok-table.ensures file ∙ sym (c.in_ok-start.ensures file))

pub returns-clause-is_image : goal.returns-clause-is_image
returns-clause-is_image c = crashed_image c.args.choice c.args.self.now.disk.start c.in_ok-on.field-0.disk.table c.args.self.now.disk.calls.items c.args.moment
    (λ file. ap (λ (m : Files). get m file) c.in_ok-on.ensures.files ∙ c.in_ok-start.ensures file
    ∙ ap (λ (calls : List Call). crashed_at c.args.choice c.args.self.now.disk.start calls c.args.moment file) c.deref.ensures.value)

pub returns-clause-settled : goal.returns-clause-settled
returns-clause-settled c = λ left image. only_start _ left _ c.in_ok-on.ensures.calls image ∙ c.in_ok-on.ensures.start ∙ sym c.in_ok-on.ensures.files
