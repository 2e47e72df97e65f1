use Rattle.std.proofs.Common.{◌≡◌, ℕ, ◌<◌, ◌≤◌, ap, ◌∙◌, arith}
use Rattle.std.specs.FinMap.{get}
use Rattle.xod_base.specs.declared.limits.TheConstants.{LONGEST_TEXT}
use Rattle.xod_journal.specs.Changes.{option_text_length}
use Rattle.xod_acts.proofs.Looking.{behind, spoilt}
use Rattle.xod_acts.proofs.Sound.{short_value}
use Rattle.xod_acts.proofs.found.property_of.Goals as goal

too_long : (read kept : ℕ) → LONGEST_TEXT < read → read ≡ kept → kept ≤ LONGEST_TEXT → ⊥
too_long read kept long is short = omega arith

pub returns-then-length_of-gt-LONGEST_TEXT-clause-looks :
    goal.returns-then-length_of-gt-LONGEST_TEXT-clause-looks
returns-then-length_of-gt-LONGEST_TEXT-clause-looks g c =
    spoilt
    (behind c.in_ok-has.ensures.counts c.in_ok-has.ensures.keeps c.in_ok-slot.ensures.reads c.in_ok-slot.ensures.counts c.in_ok-slot.ensures.keeps)
    _ (λ rows are is. too_long c.length_of.result (option_text_length (get rows.values (c.args.id, c.args.prop.now))) c.if-length_of-gt-LONGEST_TEXT.true
    (c.length_of.ensures ∙ ap (λ pair. option_text_length pair.1) is)
    (short_value rows are.sound (c.args.id, c.args.prop.now)))
