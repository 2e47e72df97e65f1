use Rattle.std.proofs.Common.{◌∙◌, sym, ap}
use Rattle.std.specs.FinMap.{entries}
use Rattle.xod_journal.specs.Books.{holder_among}
use Rattle.xod_books.proofs.TxnLemmas.{entries-sorted}
use Rattle.xod_books.proofs.txns.TxnMap.holder.Goals as goal

pub returns : goal.returns
returns c = c.holder.ensures ∙ ap (holder_among c.args.mode) (sym (ap entries (sym c.self.view_is) ∙ entries-sorted _ c.self.invariant))
