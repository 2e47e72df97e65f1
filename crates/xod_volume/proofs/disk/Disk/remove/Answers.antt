use Rattle.std.proofs.Common.{◌∙◌}
use Rattle.xod_volume.specs.declared.history.Deed.TheVariants.{Remove}
use Rattle.xod_volume.proofs.Agrees.{agrees_done}
use Rattle.xod_volume.proofs.disk.Disk.remove.Goals as goal

pub invariant_of-self : goal.invariant_of-self
invariant_of-self c =
    record { agrees = c.remove.ensures ∙ agrees_done _ _ _ _ (record { file = c.args.file; deed = Remove }) c.args.self.now.agrees c.push_reserved.ensures.items }
