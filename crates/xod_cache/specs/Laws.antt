-- What the names of types are after changes that fit.
use Rattle.std.specs.Prelude.{◌≡◌, List, true}
use Rattle.xod_base.specs.Rows.{RowsValue}
use Rattle.xod_journal.specs.Changes.{all_applied, all_fit}
use Rattle.xod_journal.specs.declared.change.RowChange.{RowChange}
use Rattle.xod_cache.specs.Kinds.{kinds_after}

-- they are those of the rows with the changes
abbrev pub KindsFollow : Type 0
KindsFollow = (rows : RowsValue) (changes : List RowChange) → all_fit rows changes ≡ true → kinds_after rows.types changes ≡ (all_applied rows changes).types
