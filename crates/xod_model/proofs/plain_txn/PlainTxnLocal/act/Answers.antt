use Rattle.std.proofs.Common.{refl}
use Rattle.xod_model.proofs.PlainTxnLemmas.{act-acts, act-counts}
use Rattle.xod_model.specs.PlainTxns.{plain_txn}
use Rattle.xod_model.proofs.plain_txn.PlainTxnLocal.act.Goals as goal

pub returns-in-Ordinary : goal.returns-in-Ordinary
returns-in-Ordinary c =
    let old = plain_txn c.args.self.now in
    let new = plain_txn c.write.new.self in
    record {
      acts = act-acts c.args.act.now old new c.in-Ordinary.is c.write.result c.write.ensures.answer c.write.ensures.changed c.write.ensures.refused;
      counts = act-counts c.args.act.now old new c.write.result c.write.ensures.answer;
      tells = refl;
      refs = refl;
    }
