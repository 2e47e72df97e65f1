use Rattle.std.proofs.Common.{◌∙◌, ap}
use Rattle.std.specs.FinMap.{insert}
use Rattle.xod_books.proofs.TxnLemmas.{from_sorted-inserted, is_sorted-rising}
use Rattle.xod_books.proofs.txns.TxnMap.set.Goals as goal

pub invariant_of-self-2 : goal.invariant_of-self-2
invariant_of-self-2 c = is_sorted-rising _ c.in_ok-insert.ensures.ordered

pub returns : goal.returns
returns c =
    from_sorted-inserted _ _ c.args.actor c.self.invariant c.in_ok-insert.ensures.ordered c.args.txn c.in_ok-insert.ensures.updates.0
    ∙ ap (λ m. insert m c.args.actor c.args.txn) c.self.view_is
