use Rattle.std.proofs.Common.{refl}
use Rattle.xod_volume.specs.declared.history.Deed.TheVariants.{Sync}
use Rattle.xod_volume.proofs.Agrees.{agrees_idle}
use Rattle.xod_volume.proofs.disk.Disk.sync.Goals as goal

pub invariant_of-self : goal.invariant_of-self
invariant_of-self c =
    record { agrees = agrees_idle _ _ _ _ (record { file = c.args.file; deed = Sync }) c.args.self.now.agrees (λ o. refl) c.push_reserved.ensures.items }
