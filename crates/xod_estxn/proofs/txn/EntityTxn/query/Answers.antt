use Rattle.xod_estxn.proofs.Moving.{finds_failed}
use Rattle.xod_estxn.proofs.txn.EntityTxn.query.Goals as goal

pub returns-in-Err-clause-finds : goal.returns-in-Err-clause-finds
returns-in-Err-clause-finds g c =
    finds_failed c.in-Err.error c.refusal.result c.refusal.ensures c.in-Err.is c.evaluate_over.ensures.reads (λ told. (c.args.self.now.over told).seen)
