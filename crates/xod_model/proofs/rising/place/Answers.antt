use Rattle.std.proofs.Common.{IfOk, IfErr, rules}
use Rattle.std.proofs.lemmas.Fn.{always_returns_same}
use Rattle.xod_base.specs.Rows.{link_cmp}
use Rattle.xod_model.specs.Keys.{link_of}
use Rattle.xod_model.specs.Rising.{IsGap, IsPlace}
use Rattle.xod_model.proofs.RisingLemmas.{searched}
use Rattle.xod_model.proofs.rising.place.Given.{Over}
use Rattle.xod_model.proofs.rising.place.Goals as goal

found : (g : Over) (c : goal.After-binary_search_by g) → IfOk c.binary_search_by.result (IsPlace g.T.Keyed.key c.args.items.now (link_of c.args.key)) × IfErr c.binary_search_by.result (IsGap g.T.Keyed.key c.args.items.now (link_of c.args.key))
found g c =
    searched g.T.Keyed.key c.args.items.now (link_of c.args.key) c.binary_search_by.result c.requires c.binary_search_by.ensures.bound
    (c.binary_search_by.ensures.position (λ item. link_cmp (g.T.Keyed.key item) (link_of c.args.key)) (always_returns_same _ _ _ (λ a r f k. search rules)))

pub returns-clause-found : goal.returns-clause-found
returns-clause-found g c = (found g c).0

pub returns-clause-absent : goal.returns-clause-absent
returns-clause-absent g c = (found g c).1
