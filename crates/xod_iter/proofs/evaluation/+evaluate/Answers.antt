use Rattle.std.proofs.Common.{◌≡◌, ℕ, List, ap, sym, ◌∙◌}
use Rattle.xod_base.specs.declared.value.EntityId.{EntityId}
use Rattle.xod_base.specs.declared.query.Query as queries
use Rattle.xod_base.specs.declared.query.Query.TheFolds.{fold-roll-Query}
use Rattle.xod_base.specs.declared.query.Query.TheOpen.{Prefix as front_form}
use Rattle.xod_base.specs.declared.query.Query.TheVariants.{Prefix}
use Rattle.xod_base.specs.Evaluation.{answer_at, answer_of, ids_with}
use Rattle.xod_base.specs.Rows.{RowsValue}
use Rattle.xod_base.specs.Values.{folded, has_front}
use Rattle.xod_reader.proofs.CallerLemmas.{reads_as}
use Rattle.xod_iter.proofs.evaluation.+evaluate.Goals as goal

-- what the texts are that begin so
front_answer : (kind prop text : List ℕ) (rows : RowsValue) → answer_of (Prefix kind prop text) rows ≡ ids_with rows kind prop (has_front (folded text))
unfolding queries.roll-Query denote.Hole.Carrier.roll
front_answer kind prop text rows = fold-roll-Query (List EntityId) (answer_at rows) (front_form kind prop text)

pub returns-in-Prefix-clause-reads : goal.returns-in-Prefix-clause-reads
returns-in-Prefix-clause-reads g t c =
    let at = c.in-Prefix in
    reads_as (λ told rows are. sym (front_answer at.kind at.prop at.text rows) ∙ ap (λ query. answer_of query rows) (sym at.is)) c.ids_with_front.ensures.reads
