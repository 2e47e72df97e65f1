use Rattle.std.proofs.Common.{◌<◌, List, length, subst, sym}
use Rattle.xod_base.specs.declared.query.Query.{Query}
use Rattle.xod_handle.proofs.Joining.{arranged_some}
use Rattle.xod_handle.proofs.parts.push_joined.Goals as goal

pub push_written-requires : goal.push_written-requires
push_written-requires c = record { some = subst (λ (ps : List Query). 0 < length ps) (sym c.in_ok-arrange.ensures) (arranged_some c.args.parts.items c.requires.some) }
