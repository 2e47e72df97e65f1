use Rattle.xod_volume.proofs.Agrees.{agrees_idle}
use Rattle.xod_volume.proofs.disk.Disk.fail.Goals as goal

pub invariant_of-self : goal.invariant_of-self
invariant_of-self c =
    record { agrees = agrees_idle _ _ _ _ (record { file = c.args.file; deed = c.args.deed }) c.args.self.now.agrees c.requires c.push_reserved.ensures.items }
