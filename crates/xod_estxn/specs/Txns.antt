-- A transaction over a view of trees, as the definitions have it, and what its type keeps.
use Rattle.std.specs.Prelude.{◌≡◌, ◌↔◌, ℕ, Bool, IsTrue, List, [], Some}
use Rattle.std.specs.FinMap.{empty}
use Rattle.std.specs.Option.{option_map, unwrap_or}
use Rattle.xod_base.specs.declared.query.Mode.{Mode}
use Rattle.xod_base.specs.Rows.{RowsValue, no_rows}
use Rattle.xod_base.specs.Views.{Trees}
use Rattle.xod_journal.specs.declared.change.RowChange.{RowChange}
use Rattle.xod_journal.specs.Changes.{all_applied}
use Rattle.xod_journal.specs.Txns.{OpenTxn, FitsRows}
use Rattle.xod_overlay.specs.Marks.{TouchMap, overlaid_trees}
use Rattle.xod_commit.specs.Blocks.{Fit}
use Rattle.xod_tables.specs.Reading.{rows_of}
use Rattle.xod_tables.specs.Tables.{AreTables}

-- the rows that trees are the tables of, and none where they are of no rows
abbrev pub base_rows : Trees → RowsValue
base_rows trees = unwrap_or (rows_of trees) no_rows

-- A transaction may begin over trees: where they are told, they are the tables of some rows, which have these names of
-- types.
abbrev pub MayBegin : Bool → Trees → List (List ℕ) → Type 0
MayBegin tells trees kinds = IsTrue tells → option_map (λ rows. rows.types) (rows_of trees) ≡ Some kinds

-- a transaction of a mode, over the trees of a commit, with its own changes
abbrev pub txn_over : Mode → ℕ → Trees → List RowChange → OpenTxn
txn_over mode commit trees own = record { mode = mode; base = commit; begun = base_rows trees; own = own; rows = all_applied (base_rows trees) own }

-- What a transaction's type keeps, over any view: its touched keys may be committed, and there are some exactly where it
-- has changes.
pub record IsKept (own : List RowChange) (touches : ℕ → TouchMap) : Type 0 where
  pub fit : Fit touches
  pub alike : (own ≡ []) ↔ ((tree : ℕ) → touches tree ≡ empty)

-- And over a view that tells: what it sees are the tables of its rows, and its changes fit the rows of its base.
pub record IsOver (trees : Trees) (own : List RowChange) (touches : ℕ → TouchMap) : Type 0 where
  pub base : AreTables trees (base_rows trees)
  pub fits : FitsRows (base_rows trees) (record { mode = Mode.Ordinary; base = 0; begun = base_rows trees; own = own; rows = all_applied (base_rows trees) own })
  pub seen : AreTables (overlaid_trees touches trees) (all_applied (base_rows trees) own)
