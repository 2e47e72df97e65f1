use Rattle.std.proofs.Common.{sym, ap, ◌∙◌, true≢false}
use Rattle.xod_acts.specs.Found.{all_short}
use Rattle.xod_acts.proofs.Looking.{behind, spoilt}
use Rattle.xod_acts.proofs.Sound.{short_values}
use Rattle.xod_acts.proofs.found.belongings_of.Goals as goal

pub returns-then-not-are_short-clause-looks : goal.returns-then-not-are_short-clause-looks
returns-then-not-are_short-clause-looks g c =
    spoilt
    (behind c.in_ok-has.ensures.counts c.in_ok-has.ensures.keeps c.in_ok-values.ensures.reads c.in_ok-values.ensures.counts c.in_ok-values.ensures.keeps)
    _ (λ rows are is. true≢false (sym (short_values rows are.sound c.args.id) ∙ ap all_short (sym is) ∙ ap all_short (sym c.as_slice.ensures)
    ∙ sym c.are_short.ensures ∙ c.if-not-are_short.true))
