use Rattle.std.proofs.Common.{◌≡◌, ◌++◌, map, drop}
use Rattle.std.specs.List.{filter}
use Rattle.xod_base.specs.Rows.{same_id}
use Rattle.xod_model.specs.Entries.{join_key}
use Rattle.xod_model.proofs.shown.shown_links.Given as goal

abbrev pub invariant-loop-join : goal.invariant-loop-join
invariant-loop-join l =
    l.shown ++ map (λ link. (link.1.0, link.1.1)) (filter (λ link. same_id link.0 l.id) (map join_key (drop l.join-index l.joins)))
    ≡ map (λ link. (link.1.0, link.1.1)) (filter (λ link. same_id link.0 l.id) (map join_key l.joins))
