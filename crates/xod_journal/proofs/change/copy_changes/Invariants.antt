use Rattle.std.proofs.Common.{◌≡◌, take}
use Rattle.xod_journal.proofs.change.copy_changes.Given as goal

abbrev pub invariant-loop-change : goal.invariant-loop-change
invariant-loop-change l = l.copied ≡ take l.change-index l.changes
