-- A transaction over lists as the definitions have it.
use Rattle.xod_journal.specs.Txns.{OpenTxn}
use Rattle.xod_model.specs.declared.plain_txn.PlainTxn.{PlainTxn}

abbrev pub plain_txn : PlainTxn → OpenTxn
plain_txn txn = record { mode = txn.mode; base = txn.base; begun = txn.begun.value; own = txn.own.items; rows = txn.rows }
