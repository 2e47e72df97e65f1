-- What a call says of a view that it reads, and of a plan that it makes.
use base.Fml.{GName}
use Rattle.std.specs.Prelude.{◌≡◌, ℕ, Bool, List, Result, Ok, Err}
use Rattle.xod_base.specs.declared.answer.StmtError.{StmtError}
use Rattle.xod_base.specs.declared.answer.StmtError.TheVariants as refusal
use Rattle.xod_base.specs.declared.causes.ReadError.{ReadError}
use Rattle.xod_base.specs.declared.causes.ReadError.TheVariants.{Device, Damaged, Memory}
use Rattle.xod_base.specs.Rows.{RowsValue}
use Rattle.xod_base.specs.Views.{CountsFaults, KeepsView, Trees}
use Rattle.xod_journal.specs.declared.change.RowChange.{RowChange}
use Rattle.xod_journal.specs.Locals as local
use Rattle.xod_reader.specs.Told.{ReadsRows}
use Rattle.xod_acts.specs.declared.plan.Plan.{Plan}
use Rattle.xod_acts.specs.Plans.{Plans}

-- A call reads what rows have, and changes nothing.
pub record Looks {View A : Type 0} (tells : View → Bool) (trees : View → Trees) (commit : View → ℕ) (refs : View → List GName) (faults : View → ℕ)
    (of_rows : RowsValue → A) (old new : View) (result : Result A ReadError) : Type 0 where
  pub reads : ReadsRows (tells old) (trees old) of_rows result
  pub counts : CountsFaults (faults old) (faults new) result
  pub keeps : KeepsView tells trees commit refs faults old new

-- A call plans what rows give, and changes nothing.
pub record Expands {View : Type 0} (tells : View → Bool) (trees : View → Trees) (commit : View → ℕ) (refs : View → List GName) (faults : View → ℕ)
    (wanted : RowsValue → Result (List RowChange) StmtError) (old new : View) (result : Result Plan StmtError) : Type 0 where
  pub plans : Plans (tells old) (trees old) wanted result
  pub counts : local.CountsFaults (faults old) (faults new) result
  pub keeps : KeepsView tells trees commit refs faults old new

-- a reader's error as that of a statement
abbrev pub error_of : ReadError → StmtError
error_of Device = refusal.Device
error_of (Damaged place) = refusal.Damaged place
error_of Memory = refusal.Memory

-- An error is the refusal that is expected, and want of memory says nothing.
abbrev pub Refuses : {A : Type 0} → Result A StmtError → StmtError → Type 0
Refuses expected refusal.Memory = Unit {0}
Refuses expected error = expected ≡ Err error

-- An answer is what is expected, and so is a refusal.
abbrev pub Gives : {A : Type 0} → Result A StmtError → Result A StmtError → Type 0
Gives expected (Ok answer) = expected ≡ Ok answer
Gives expected (Err error) = Refuses expected error
