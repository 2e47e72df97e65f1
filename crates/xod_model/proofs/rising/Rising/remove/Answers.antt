use Rattle.std.proofs.Common.{◌≡◌, ◌∙◌, ap, rules}
use Rattle.std.specs.Prelude.{not}
use Rattle.std.proofs.lemmas.Fn.{filter_same}
use Rattle.xod_model.specs.Keys.{link_of}
use Rattle.xod_model.specs.Rising.{is_at, rises, without}
use Rattle.xod_model.proofs.RisingLemmas.{rises-without}
use Rattle.xod_model.proofs.rising.Rising.remove.Given.{Over}
use Rattle.xod_model.proofs.rising.Rising.remove.Goals as goal

left : (g : Over) (c : goal.After-retain g) → c.retain.new.self.items ≡ without g.T.Keyed.key (link_of c.args.key) c.self.inside.items.items
left g c = filter_same _ (λ item. not (is_at g.T.Keyed.key (link_of c.args.key) item)) _ (λ item b f h. search rules) _ _ c.retain.ensures.filtered

pub returns : goal.returns
returns g c = left g c ∙ ap (without g.T.Keyed.key (link_of c.args.key)) c.self.view_is

pub invariant_of-self : goal.invariant_of-self
invariant_of-self g c = ap (rises g.T.Keyed.key) (left g c) ∙ rises-without g.T.Keyed.key (link_of c.args.key) c.self.inside.items.items c.self.invariant
