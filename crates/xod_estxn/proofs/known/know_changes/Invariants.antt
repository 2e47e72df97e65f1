use Rattle.std.proofs.Common.{◌≡◌, true, drop}
use Rattle.std.specs.List.{list_all}
use Rattle.xod_journal.specs.Changes.{is_change}
use Rattle.xod_estxn.proofs.known.know_changes.Given as goal

abbrev pub invariant-loop-change : goal.invariant-loop-change
invariant-loop-change l = list_all is_change (drop l.change-index l.changes) ≡ true → list_all is_change l.changes ≡ true
