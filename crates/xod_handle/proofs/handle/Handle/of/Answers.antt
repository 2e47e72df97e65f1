use Rattle.std.proofs.Common.{◌≡◌, ◌∙◌, ap, sym, subst}
use Rattle.xod_base.specs.declared.query.Query.{Query}
use Rattle.xod_handle.specs.Forms.{IsHandle, normal_of}
use Rattle.xod_handle.proofs.Own.{own_normal}
use Rattle.xod_handle.proofs.Same.{stays_named}
use Rattle.xod_handle.proofs.handle.Handle.of.Goals as goal

pub invariant_of-result : goal.invariant_of-result
invariant_of-result c = subst IsHandle (sym c.in_ok-printed.ensures)
    record { named = stays_named c.args.query.now c.requires.named; normal = own_normal c.args.query.now }
