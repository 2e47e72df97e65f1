use Rattle.std.proofs.Common.{◌∙◌, ap, sym}
use Rattle.xod_journal.specs.Standing.{Newest}
use Rattle.xod_model.proofs.PlainLemmas.{plain-newest}
use Rattle.xod_model.proofs.plain.PlainSpace.rows.Goals as goal

pub returns : goal.returns
returns c = c.as_rows.ensures ∙ sym (ap (λ (n : Newest). n.rows) (plain-newest _ _ _ _ _ _ _ _ c.args.self.now.kept))
