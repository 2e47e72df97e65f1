use Rattle.std.proofs.Common.{◌∙◌, sym}
use Rattle.xod_model.proofs.NameLemmas.{name_at-get_or, name_at-past}
use Rattle.xod_model.proofs.shown.name_at.Goals as goal

pub returns-in_ok-name : goal.returns-in_ok-name
returns-in_ok-name c = c.in_ok-name.ensures.equal ∙ c.index-names-at.is ∙ sym (name_at-get_or c.args.names.now c.args.n _ c.if-at-names.true)

pub returns-in_ok-name-2 : goal.returns-in_ok-name-2
returns-in_ok-name-2 c = c.in_ok-name-2.ensures ∙ sym (name_at-past c.args.names.now c.args.n c.if-at-names.false)
