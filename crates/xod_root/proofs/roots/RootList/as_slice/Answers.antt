use Rattle.std.proofs.Common.{length, ap, sym, ◌∙◌, arith}
use Rattle.std.proofs.lemmas.List.{length-take}
use Rattle.xod_root.proofs.Listed.{links-of}
use Rattle.xod_root.proofs.roots.RootList.as_slice.Goals as goal

pub returns-clause-exactly : goal.returns-clause-exactly
returns-clause-exactly c = c.split_at.ensures.front ∙ sym (links-of _ c.args.self.now c.self.invariant.sorted c.self.view_is)

pub returns-clause-few : goal.returns-clause-few
returns-clause-few c = let few = c.self.invariant.few in omega (arith, ap length c.split_at.ensures.front, length-take c.self.inside.count c.self.inside.links)
