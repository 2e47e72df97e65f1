use Rattle.std.proofs.Common.{take, ◌∙◌}
use Rattle.std.specs.FinMap.{get}
use Rattle.xod_volume.specs.declared.history.Deed.TheVariants.{Cut}
use Rattle.xod_volume.proofs.Agrees.{with_changed, agrees_done}
use Rattle.xod_volume.proofs.disk.Disk.cut.Goals as goal

pub invariant_of-self : goal.invariant_of-self
invariant_of-self c =
    record {
      agrees = c.cut.ensures
          ∙ with_changed c.args.self.now.table c.args.file (take c.args.kept) (get c.args.self.now.table c.args.file) c.requires
          ∙ agrees_done _ _ _ _ (record { file = c.args.file; deed = Cut c.args.kept }) c.args.self.now.agrees c.push_reserved.ensures.items;
    }
