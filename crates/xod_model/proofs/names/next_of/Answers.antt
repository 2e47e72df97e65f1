use Rattle.std.proofs.Common.{arith}
use Rattle.std.proofs.lemmas.Grind.{elements}
use Rattle.xod_model.proofs.NameLemmas.{next_of-get_or}
use Rattle.xod_model.proofs.names.next_of.Goals as goal

pub returns : goal.returns
returns c = grind (arith, elements, next_of-get_or c.args.nexts.now c.args.kind)
