-- A transaction that fails as planned, as the definitions have it. It tells no rows.
use Rattle.xod_base.specs.Rows.{no_rows}
use Rattle.xod_journal.specs.Txns.{OpenTxn}
use Rattle.xod_spaces.specs.declared.txn.FaultyTxn.{FaultyTxn}

abbrev pub faulty_txn : FaultyTxn → OpenTxn
faulty_txn txn = record { mode = txn.mode; base = txn.base; begun = no_rows; own = txn.own.items; rows = txn.rows }
