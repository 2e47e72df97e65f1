use Rattle.std.proofs.Common.{◌∙◌, ap}
use Rattle.std.specs.FinMap.{from_sorted}
use Rattle.std.specs.Ordering.{nat_cmp}
use Rattle.xod_books.proofs.TxnLemmas.{from_sorted-none}
use Rattle.xod_books.proofs.txns.TxnMap.new.Goals as goal

pub returns : goal.returns
returns c = ap (from_sorted {R = nat_cmp}) c.new.ensures.empty ∙ from_sorted-none
