use Rattle.std.proofs.Common.{◌≡◌, ◌++◌, map, drop}
use Rattle.xod_base.specs.Ids.{id_of_number}
use Rattle.xod_journal.specs.Changes.{targets_gone}
use Rattle.xod_model.proofs.removal.targets_gone.Given as goal

abbrev pub invariant-loop-number : goal.invariant-loop-number
invariant-loop-number l =
    l.changes ++ targets_gone l.source l.link (map id_of_number (drop l.number-index l.number-items))
    ≡ targets_gone l.source l.link l.targets
