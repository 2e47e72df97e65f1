use Rattle.xod_estxn.proofs.Acting.{nothing_kept, nothing_over}
use Rattle.xod_estxn.proofs.txn.EntityTxn.new.Goals as goal

pub invariant_of-result : goal.invariant_of-result
invariant_of-result g c =
    let laws = c.know_laws.ensures in
    record {
      kept = nothing_kept laws.none _ _ c.new-2.ensures c.new.ensures;
      over = λ told. nothing_over laws.below _ c.args.adapter.names _ _ c.new-2.ensures c.new.ensures (c.requires told);
    }
