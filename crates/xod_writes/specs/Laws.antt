-- Trees stay the tables of the rows, change by change.
use Rattle.std.specs.Prelude.{IsTrue, List}
use Rattle.std.specs.List.{list_all}
use Rattle.xod_base.specs.Rows.{RowsValue}
use Rattle.xod_base.specs.Views.{Trees}
use Rattle.xod_journal.specs.declared.change.RowChange.{RowChange}
use Rattle.xod_journal.specs.Changes.{fits, is_change, applied, all_fit, all_applied}
use Rattle.xod_tables.specs.Tables.{AreTables}
use Rattle.xod_tables.specs.Writes.{after_writes}
use Rattle.xod_writes.specs.Changes.{writes_of, all_writes}

-- the tables with the writes of a change that fits are the tables of the rows with the change
abbrev pub TablesFollowChanges : Type 0
TablesFollowChanges = (trees : Trees) (rows : RowsValue) (change : RowChange) → AreTables trees rows → IsTrue (is_change change) → IsTrue (fits rows change)
    → AreTables (after_writes trees (writes_of rows change)) (applied rows change)

-- and so for a list of changes, each of which fits after those before it
abbrev pub TablesFollowAllChanges : Type 0
TablesFollowAllChanges = (trees : Trees) (rows : RowsValue) (changes : List RowChange) → AreTables trees rows → IsTrue (list_all is_change changes) → IsTrue (all_fit rows changes)
    → AreTables (after_writes trees (all_writes rows changes)) (all_applied rows changes)
