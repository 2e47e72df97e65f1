use Rattle.xod_model.specs.Entries.{rows_of}
use Rattle.xod_model.proofs.lists.Lists.sorted.Goals as goal

pub returns : goal.returns
returns c = c.in_ok-sorted.ensures (rows_of c.args.self.now) c.args.prop.now c.args.ids.now c.in_ok-ranked.ensures
