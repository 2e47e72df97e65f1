use Rattle.std.proofs.Common.{map, drop, ap, sym, ◌∙◌, ◌∷◌, ◌+◌, get_or, refl}
use Rattle.xod_base.specs.Ids.{id_of_number}
use Rattle.xod_journal.specs.declared.change.RowChange.TheVariants.{LinkDel}
use Rattle.xod_acts.specs.Making.{with_change}
use Rattle.xod_acts.proofs.Going.{all_behind, dropped}
use Rattle.xod_acts.proofs.links.plan_numbered.Goals as goal

pub loop-target-preserved : goal.loop-target-preserved
loop-target-preserved c =
    let numbers = c.as_numbers-target-items.result.now in
    let at = c.loop-target.target-index in
    all_behind (λ _. c.args.number) (λ target. LinkDel c.args.source c.args.link.now target)
    (map id_of_number (drop at numbers)) (map id_of_number (drop (at + 1) numbers)) c.of_number.result c.loop-target.plan c.push.new.self _
    (ap (map id_of_number) (dropped numbers at 0 (get_or numbers at 0) c.loop-target-test.true refl)
    ∙ ap (λ id. id ∷ map id_of_number (drop (at + 1) numbers)) (sym c.of_number.ensures))
    (c.in_ok-push.ensures ∙ ap (λ name. with_change c.args.number
    (LinkDel c.args.source name c.of_number.result) c.loop-target.plan) c.in_ok-try_clone.ensures.equal)
    c.loop-target.invariant
