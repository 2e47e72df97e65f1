-- What an audit of trees answers.
use Rattle.std.specs.Prelude.{◌≡◌, ℕ, Bool, IsTrue, List, Option, None, Result, Err, IfOk}
use Rattle.std.specs.Option.{option_map}
use Rattle.xod_base.specs.declared.causes.Place.{Place}
use Rattle.xod_base.specs.declared.causes.ReadError.{ReadError}
use Rattle.xod_base.specs.declared.causes.ReadError.TheVariants.{Damaged}
use Rattle.xod_base.specs.Views.{Trees}
use Rattle.xod_tables.specs.Reading.{rows_of}
use Rattle.xod_audit.specs.Tests.{are_there}

-- the names of the types of the rows that trees are the tables of, none where they are those of no rows
abbrev pub kinds_of : Trees → Option (List (List ℕ))
kinds_of trees = option_map (λ rows. rows.types) (rows_of trees)

-- Where a view tells and its eight trees are there, the answer is these names, and bytes are damaged only where the trees
-- are the tables of no rows. What a view answers of a tree that is not there is not known.
pub record Audits (tells : Bool) (trees : Trees) (result : Result (Option (List (List ℕ))) ReadError) : Type 0 where
  pub names : IsTrue tells → IsTrue (are_there trees) → IfOk result (λ found. found ≡ kinds_of trees)
  pub damaged : IsTrue tells → (place : Place) → result ≡ Err (Damaged place) → rows_of trees ≡ None
