use Rattle.std.proofs.Common.{◌≡◌, drop}
use Rattle.xod_session.specs.Variables.{first_unset, words_in}
use Rattle.xod_session.proofs.private.unset_of_uses.Given as goal

abbrev pub invariant-loop-one : goal.invariant-loop-one
invariant-loop-one l = first_unset l.variables (words_in (drop l.one-index l.uses)) ≡ first_unset l.variables (words_in l.uses)
