-- The last step of the check: whether the trees under a root are the tables of some rows.
use Rattle.std.proofs.Common.{◌≡◌, Option, Some, None, Ok, refl}
use Rattle.std.specs.Prelude.{IsSome}
use Rattle.xod_base.specs.declared.causes.Place.{Place}
use Rattle.xod_base.specs.Rows.{RowsValue}
use Rattle.xod_volume.specs.Files.{Files}
use Rattle.xod_tables.specs.Reading.{rows_of}
use Rattle.xod_recover.specs.Check.{Newest, check_tables, check_trees, trees_under}

-- the root that passes is the one found
tables-ok : (newest found : Newest) (rows : Option RowsValue) → check_tables newest rows ≡ Ok found → (newest ≡ found) × IsSome rows
tables-ok newest found None e = absurd cc
tables-ok newest found (Some rows) e = (cc e, refl)

pub trees-ok : (files : Files) (newest found : Newest) (bad : Option Place) → check_trees files newest bad ≡ Ok found → (bad ≡ None) × (newest ≡ found) × IsSome (rows_of (trees_under files newest))
trees-ok files newest found (Some place) e = absurd cc
trees-ok files newest found None e = let is = tables-ok newest found (rows_of (trees_under files newest)) e in (refl, is.0, is.1)

-- and the other way round
pub ok-tables : (newest : Newest) (rows : Option RowsValue) → IsSome rows → check_tables newest rows ≡ Ok newest
ok-tables newest None some = absurd cc
ok-tables newest (Some rows) some = refl
