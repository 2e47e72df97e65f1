-- What a call answers that looks into the trees of a view.
use base.Fml.{GName}
use Rattle.std.specs.Prelude.{◌≡◌, ℕ, Bool, false, List, IsTrue, Result, Err, IfOk}
use Rattle.xod_base.specs.declared.causes.Place.{Place}
use Rattle.xod_base.specs.declared.causes.ReadError.{ReadError}
use Rattle.xod_base.specs.declared.causes.ReadError.TheVariants.{Damaged}
use Rattle.xod_base.specs.Views.{Trees, CountsFaults, KeepsView}
use Rattle.xod_audit.specs.Tests.{are_there}

-- Where the view tells and the eight trees are there, the answer is what was sought in them, and bytes are damaged only
-- where a tree is not there. The view is as before, but for its count of faults.
pub record Looks {A View : Type 0} (tells : View → Bool) (trees : View → Trees) (commit : View → ℕ) (refs : View → List GName) (faults : View → ℕ)
    (old new : View) (sought : Trees → A) (result : Result A ReadError) : Type 0 where
  pub value : IsTrue (tells old) → IsTrue (are_there (trees old)) → IfOk result (λ found. found ≡ sought (trees old))
  pub damaged : IsTrue (tells old) → (place : Place) → result ≡ Err (Damaged place) → are_there (trees old) ≡ false
  pub counts : CountsFaults (faults old) (faults new) result
  pub keeps : KeepsView tells trees commit refs faults old new
