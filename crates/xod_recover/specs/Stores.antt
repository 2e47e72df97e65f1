-- What good files store.
use Rattle.std.specs.Prelude.{ℕ, Option, Some, None, option_and_then, option_map, Result, Ok, Err, IsSome}
use Rattle.xod_base.specs.declared.causes.Place.{Place}
use Rattle.xod_base.specs.Rows.{RowsValue}
use Rattle.xod_base.specs.Views.{Trees}
use Rattle.xod_volume.specs.Files.{Files}
use Rattle.xod_tables.specs.Reading.{rows_of}
use Rattle.xod_recover.specs.Check.{Newest, check, trees_under}

-- The number of a commit, and its trees as finite maps.
pub record Stored : Type 0 where
  pub commit : ℕ
  pub trees : Trees

-- what a newest root stands for
abbrev pub stored_by : Files → Newest → Stored
stored_by files newest = record { commit = newest.commit; trees = trees_under files newest }

abbrev pub stored_of : Files → Result Newest Place → Option Stored
stored_of files (Ok newest) = Some (stored_by files newest)
stored_of files (Err place) = None

-- what is stored in files; none where they are damaged
abbrev pub stored_in : Files → Option Stored
stored_in files = stored_of files (check files)

-- good files: the decision gives no bad place
abbrev pub IsGood : Files → Type 0
IsGood files = IsSome (stored_in files)

-- ---- the rows

-- the rows that the trees of a store are the tables of
abbrev pub rows_stored : Stored → Option RowsValue
rows_stored stored = rows_of stored.trees

-- the rows of files, and the number of their commit; none where they are damaged
abbrev pub rows_in : Files → Option RowsValue
rows_in files = option_and_then rows_stored (stored_in files)

abbrev pub commit_in : Files → Option ℕ
commit_in files = option_map (λ stored. stored.commit) (stored_in files)
