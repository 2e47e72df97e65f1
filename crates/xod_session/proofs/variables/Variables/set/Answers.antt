use Rattle.std.proofs.Common.{◌∙◌}
use Rattle.std.specs.FinMap.{insert}
use Rattle.xod_session.proofs.VariableLemmas.{set_entries}
use Rattle.xod_session.proofs.variables.Variables.set.Goals as goal

pub returns-clause-ok : goal.returns-clause-ok
returns-clause-ok c =
    set_entries c.self.inside.ids.entries c.insert.new.self.entries c.in_ok-key.key.items c.args.id c.in_ok-insert.ensures.updates.1 c.in_ok-insert.ensures.updates.3
    ∙ (λ i. insert (c.self.view_is i) ((c.in_ok-key.ensures.items ∙ c.as_bytes.ensures.bytes) i) c.args.id)
