use Rattle.std.proofs.Common.{ap, sym, ◌∙◌}
use Rattle.xod_base.specs.Evaluation.{rising}
use Rattle.xod_sets.specs.Rising.{rises}
use Rattle.xod_sets.proofs.Passes.{ids}
use Rattle.xod_sets.proofs.Rising.{rising_alone, rises_of}
use Rattle.xod_sets.proofs.order.rising_of.Goals as goal

pub returns-then-numbers_rise-clause-exactly : goal.returns-then-numbers_rise-clause-exactly
returns-then-numbers_rise-clause-exactly c = sym (rising_alone c.args.ids
    (ap rises (sym c.as_numbers.ensures.ids) ∙ sym c.numbers_rise.ensures ∙ c.if-numbers_rise.true))

pub returns-clause-exactly : goal.returns-clause-exactly
returns-clause-exactly c = c.from_numbers.ensures ∙ c.sorted_once.ensures
    ∙ ap (λ ns. rising (ids ns)) (c.into_numbers.ensures ∙ sym c.as_numbers.ensures.numbers) ∙ ap rising c.as_numbers.ensures.ids

pub returns-clause-rises : goal.returns-clause-rises
returns-clause-rises c = rises_of c.from_numbers.result (ids c.into_numbers.result.items) (c.from_numbers.ensures ∙ c.sorted_once.ensures)
