use Rattle.std.proofs.Common.{◌≡◌, map, drop}
use Rattle.xod_base.specs.Ids.{id_of_number}
use Rattle.xod_journal.specs.declared.change.RowChange.TheVariants.{LinkDel}
use Rattle.xod_acts.specs.Making.{no_plan, with_all}
use Rattle.xod_acts.proofs.links.plan_numbered.Given as goal

abbrev pub invariant-loop-target : goal.invariant-loop-target
invariant-loop-target l =
    with_all (λ _. l.number) (λ target. LinkDel l.source l.link target) (map id_of_number (drop l.target-index l.target-items)) l.plan
    ≡ with_all (λ _. l.number) (λ target. LinkDel l.source l.link target) l.targets no_plan
