use Rattle.std.proofs.Common.{◌∙◌, ap}
use Rattle.xod_model.specs.Rising.{rises}
use Rattle.xod_model.proofs.RisingLemmas.{rises-put}
use Rattle.xod_model.proofs.rising.Rising.put.Goals as goal

pub invariant_of-self-2 : goal.invariant_of-self-2
invariant_of-self-2 g c = ap (rises g.T.Keyed.key) c.in_ok-put_in.ensures.ok ∙ rises-put g.T.Keyed.key c.args.item c.self.inside.items.items c.self.invariant
