use Rattle.std.proofs.Common.{◌∙◌, ap}
use Rattle.std.specs.FinMap.{remove}
use Rattle.xod_books.proofs.TxnLemmas.{from_sorted-removed, is_sorted-rising}
use Rattle.xod_books.proofs.txns.TxnMap.remove.Goals as goal

pub invariant_of-self : goal.invariant_of-self
invariant_of-self c = is_sorted-rising _ c.remove.ensures.ordered

pub returns : goal.returns
returns c =
    from_sorted-removed _ _ c.args.actor c.self.invariant c.remove.ensures.ordered c.remove.ensures.updates.0
    ∙ ap (λ m. remove m c.args.actor) c.self.view_is
