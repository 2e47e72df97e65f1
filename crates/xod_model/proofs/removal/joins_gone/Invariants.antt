use Rattle.std.proofs.Common.{◌≡◌, ◌++◌, map, drop}
use Rattle.std.specs.List.{filter}
use Rattle.xod_journal.specs.Changes.{link_gone}
use Rattle.xod_model.specs.Entries.{join_key}
use Rattle.xod_model.specs.Gone.{is_on}
use Rattle.xod_model.proofs.removal.joins_gone.Given as goal

abbrev pub invariant-loop-join : goal.invariant-loop-join
invariant-loop-join l =
    l.changes ++ map link_gone (filter (is_on l.side l.id) (map join_key (drop l.join-index l.joins)))
    ≡ map link_gone (filter (is_on l.side l.id) (map join_key l.joins))
