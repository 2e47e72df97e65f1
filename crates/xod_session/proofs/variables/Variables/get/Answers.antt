use Rattle.std.proofs.Common.{◌∙◌, ap, sym}
use Rattle.std.specs.FinMap.{get}
use Rattle.xod_session.specs.Variables.{Variables}
use Rattle.xod_session.proofs.VariableLemmas.{get_entries}
use Rattle.xod_session.proofs.variables.Variables.get.Goals as goal

pub returns-clause-value : goal.returns-clause-value
returns-clause-value c =
    c.copied.ensures ∙ c.get.ensures.value ∙ sym (get_entries c.self.inside.ids.entries c.as_bytes.result.now) ∙ ap (get (Rattle.xod_session.specs.VariableMaps.variables_of c.self.inside.ids.entries)) c.as_bytes.ensures.bytes
    ∙ ap (λ (v : Variables). get v c.args.name.now) c.self.view_is
