use Rattle.std.proofs.Common.{sym, ◌∙◌}
use Rattle.xod_volume.proofs.Crashed.{at_first}
use Rattle.xod_volume.proofs.disk.Disk.new.Goals as goal

pub invariant_of-result : goal.invariant_of-result
invariant_of-result c = record { agrees = c.requires ∙ sym (at_first c.args.start _ (c.in_ok-make_room.ensures.items ∙ c.new-calls.ensures.items)) }
