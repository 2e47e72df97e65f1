-- What a call answers that reads what rows have, where they are such rows as it was told.
use Rattle.std.specs.Prelude.{◌≡◌, Bool, IsTrue, Result, Err, IfOk}
use Rattle.xod_base.specs.declared.causes.Place.{Place}
use Rattle.xod_base.specs.declared.causes.ReadError.{ReadError}
use Rattle.xod_base.specs.declared.causes.ReadError.TheVariants.{Damaged}
use Rattle.xod_base.specs.Rows.{RowsValue}
use Rattle.xod_base.specs.Views.{Trees}
use Rattle.xod_tables.specs.Tables.{AreTables}

-- Where a view tells and its trees are the tables of such rows, the answer is what the rows have, and nothing is damaged.
pub record ReadsSuch {A : Type 0} (IsSuch : RowsValue → Type 0) (tells : Bool) (trees : Trees) (of_rows : RowsValue → A) (result : Result A ReadError) : Type 0 where
  pub value : IsTrue tells → (rows : RowsValue) → AreTables trees rows → IsSuch rows → IfOk result (λ found. found ≡ of_rows rows)
  pub damaged : IsTrue tells → (rows : RowsValue) → AreTables trees rows → IsSuch rows → (place : Place) → result ≡ Err (Damaged place) → ⊥
