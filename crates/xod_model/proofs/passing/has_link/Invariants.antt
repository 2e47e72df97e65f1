use Rattle.std.proofs.Common.{◌≡◌, map, drop}
use Rattle.std.specs.List.{list_any}
use Rattle.xod_base.specs.Evaluation.{is_link_of}
use Rattle.xod_model.specs.Entries.{join_key}
use Rattle.xod_model.proofs.passing.has_link.Given as goal

abbrev pub invariant-loop-join : goal.invariant-loop-join
invariant-loop-join l =
    list_any (is_link_of l.source l.link) (map join_key (drop l.join-index l.joins)) ≡ list_any (is_link_of l.source l.link) (map join_key l.joins)
