use Rattle.std.proofs.Common.{◌≡◌, take}
use Rattle.xod_lang.proofs.pooled.pooled_vars.Given as goal

abbrev pub invariant-loop-one : goal.invariant-loop-one
invariant-loop-one l = l.pooled ≡ take l.one-index l.uses
