use Rattle.std.proofs.Common.{◌≡◌, take}
use Rattle.xod_session.specs.Variables.{ids_for}
use Rattle.xod_session.proofs.filling.ids_for.Given as goal

abbrev pub invariant-loop-one : goal.invariant-loop-one
invariant-loop-one l = l.ids.items ≡ ids_for l.variables (take l.one-index l.uses)
