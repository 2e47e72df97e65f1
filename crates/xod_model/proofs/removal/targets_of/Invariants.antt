use Rattle.std.proofs.Common.{◌≡◌, ◌++◌, map, drop}
use Rattle.std.specs.List.{filter}
use Rattle.xod_base.specs.Evaluation.{is_link_of}
use Rattle.xod_model.specs.Entries.{join_key}
use Rattle.xod_model.proofs.removal.targets_of.Given as goal

abbrev pub invariant-loop-join : goal.invariant-loop-join
invariant-loop-join l =
    l.targets ++ map (λ key. key.1.1) (filter (is_link_of l.source l.link) (map join_key (drop l.join-index l.joins)))
    ≡ map (λ key. key.1.1) (filter (is_link_of l.source l.link) (map join_key l.joins))
