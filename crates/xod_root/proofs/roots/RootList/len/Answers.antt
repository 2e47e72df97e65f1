use Rattle.std.proofs.Common.{length, ap, sym, ◌∙◌}
use Rattle.std.specs.FinMap.{len-entries}
use Rattle.xod_root.proofs.roots.RootList.len.Goals as goal

pub returns-clause-exactly : goal.returns-clause-exactly
returns-clause-exactly c = ap length c.as_slice.ensures.exactly ∙ sym (len-entries c.args.self.now)
