-- An open transaction: what it sees, and what it has changed since.
use Rattle.std.specs.Prelude.{◌≡◌, ℕ, Bool, true, false, List, [], ◌++◌, Result, Ok, Err}
use Rattle.xod_base.specs.declared.query.Mode.{Mode}
use Rattle.xod_base.specs.declared.query.Query.{Query}
use Rattle.xod_base.specs.declared.answer.StmtError.{StmtError}
use Rattle.xod_base.specs.declared.answer.FlushAnswer.{FlushAnswer}
use Rattle.xod_base.specs.declared.answer.FlushAnswer.TheVariants as flush
use Rattle.xod_base.specs.Rows.{RowsValue}
use Rattle.xod_journal.specs.declared.change.RowChange.{RowChange}
use Rattle.xod_journal.specs.declared.journal.Pinned.{Pinned}
use Rattle.xod_journal.specs.Changes.{all_applied, all_fit}
use Rattle.xod_journal.specs.Standing.{Newest}

-- An open transaction: its mode, the commit that it sees and the rows of it, its own changes since, and those rows with
-- them applied.
pub record OpenTxn : Type 0 where
  pub mode : Mode
  pub base : ℕ
  pub begun : RowsValue
  pub own : List RowChange
  pub rows : RowsValue

-- a transaction at the newest commit, without changes
abbrev pub txn_at : Mode → Newest → OpenTxn
txn_at mode now = record { mode = mode; base = now.commit; begun = now.rows; own = []; rows = now.rows }

-- the transaction after an act: it has its changes, and none where it was refused
abbrev pub txn_acted : OpenTxn → Result (List RowChange) StmtError → OpenTxn
txn_acted txn (Ok changes) = record txn { own = txn.own ++ changes; rows = all_applied txn.rows changes }
txn_acted txn (Err error) = txn

-- the transaction after a flush: it goes on at its own commit, without changes
abbrev pub txn_flushed : OpenTxn → FlushAnswer → OpenTxn
txn_flushed txn flush.Nothing = txn
txn_flushed txn (flush.Committed version fault) = record txn { base = version; begun = txn.rows; own = [] }
txn_flushed txn (flush.Conflict base now) = txn

-- whether the answer of a query is cached; nothing is, yet
abbrev pub is_hit : OpenTxn → Query → Bool
is_hit txn query = false

-- what the books have of a transaction
abbrev pub pinned_of : OpenTxn → Pinned
pinned_of txn = record { mode = txn.mode; base = txn.base }

-- A transaction began with these rows, its own changes fit them, and its rows are those with the changes.
pub record FitsRows (rows : RowsValue) (txn : OpenTxn) : Type 0 where
  pub began : txn.begun ≡ rows
  pub fit : all_fit rows txn.own ≡ true
  pub now : txn.rows ≡ all_applied rows txn.own
