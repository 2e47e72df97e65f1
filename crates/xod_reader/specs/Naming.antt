-- Parts of an entity that have the numbers of their names, with these names.
use Rattle.std.specs.Prelude.{◌≡◌, ◌<◌, ℕ, Bool, IsTrue, List, map, length, Result, Err, IfOk}
use Rattle.std.specs.List.{AllByRecursion}
use Rattle.xod_base.specs.declared.causes.Place.{Place}
use Rattle.xod_base.specs.declared.causes.ReadError.{ReadError}
use Rattle.xod_base.specs.declared.causes.ReadError.TheVariants.{Damaged}
use Rattle.xod_base.specs.declared.value.EntityId.{EntityId}
use Rattle.xod_base.specs.declared.value.Value.{Value}
use Rattle.xod_base.specs.Rows.{RowsValue}
use Rattle.xod_base.specs.Views.{Trees}
use Rattle.xod_journal.specs.Shows.{name_at}
use Rattle.xod_tables.specs.Tables.{AreTables}
use Rattle.xod_reader.specs.declared.parts.NamedValue.{NamedValue}
use Rattle.xod_reader.specs.declared.parts.NamedLink.{NamedLink}

-- a value with the name that its number has
abbrev pub named_value : List (List ℕ) → ℕ × Value → NamedValue
named_value names value = record { number = value.0; name = name_at names value.0; value = value.1 }

-- a link with the name that its number has
abbrev pub named_link : List (List ℕ) → ℕ × EntityId → NamedLink
named_link names link = record { number = link.0; name = name_at names link.0; end = link.1 }

-- Where a view tells, its trees are the tables of rows, and each number has a name there, each part comes with its name,
-- and nothing is damaged.
pub record NamesEach {A B : Type 0} (tells : Bool) (trees : Trees) (names_of : RowsValue → List (List ℕ)) (named : List (List ℕ) → ℕ × A → B)
    (parts : List (ℕ × A)) (result : Result (List B) ReadError) : Type 0 where
  pub value : IsTrue tells → (rows : RowsValue) → AreTables trees rows → AllByRecursion (λ part. part.0 < length (names_of rows)) parts
      → IfOk result (λ list. list ≡ map (named (names_of rows)) parts)
  pub damaged : IsTrue tells → (rows : RowsValue) → AreTables trees rows → AllByRecursion (λ part. part.0 < length (names_of rows)) parts
      → (place : Place) → result ≡ Err (Damaged place) → ⊥
