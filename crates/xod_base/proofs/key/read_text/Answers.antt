use Rattle.std.proofs.Common.{◌∙◌, sym, ap, true≢false}
use Rattle.xod_base.specs.Text.{is_text}
use Rattle.xod_base.specs.Values.{folded}
use Rattle.xod_base.proofs.Folding.{folded_again, folded_text}
use Rattle.xod_base.proofs.KeyReading.{no_text, not_empty, not_none, reads_text}
use Rattle.xod_base.proofs.key.read_text.Goals as goal
use Rattle.xod_base.proofs.key.read_text.Goals.{then-is_empty-via-then-is_empty, then-is_empty-via-else-is_empty+then-not-is_folded}

pub returns-then-is_empty : goal.returns-then-is_empty
returns-then-is_empty c =
    no_text c.args.rest.now _ _ (c.split_at.ensures.front_len ∙ c.text_len.ensures.exact) c.split_at.ensures.by_index.0
    (λ text more valid same behind. elim c.then-is_empty.branch [
      | then-is_empty-via-then-is_empty w ↦ not_empty _ more behind w.if-is_empty.ensures
      | then-is_empty-via-else-is_empty+then-not-is_folded w ↦
          true≢false (sym (w.is_folded.ensures.1 (ap folded same ∙ folded_again text ∙ sym same)) ∙ w.if-not-is_folded.true)
    ])

pub returns-in-Some : goal.returns-in-Some
returns-in-Some c =
    let found = rw c.in-Some.is at c.in_ok-text.ensures in
    reads_text c.args.rest.now _ _ c.in-Some.text (c.split_at.ensures.front_len ∙ c.text_len.ensures.exact) c.split_at.ensures.by_index.0
    (not_none _ c.if-is_empty.ensures) (c.is_folded.ensures.0 c.if-not-is_folded.false) found.0 found.1

pub returns-in-None : goal.returns-in-None
returns-in-None c =
    let none = rw c.in-None.is at c.in_ok-text.ensures in
    no_text c.args.rest.now _ _ (c.split_at.ensures.front_len ∙ c.text_len.ensures.exact) c.split_at.ensures.by_index.0
    (λ text more valid same behind. true≢false (sym (folded_text text valid) ∙ ap is_text (sym same) ∙ none))
