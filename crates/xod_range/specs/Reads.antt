-- What a call answers that reads in a tree of a view.
use Rattle.std.specs.Prelude.{◌≡◌, Bool, IsTrue, Option, Some, None, Result, Err, IfSome, IfOk}
use Rattle.xod_base.specs.declared.causes.Place.{Place}
use Rattle.xod_base.specs.declared.causes.ReadError.{ReadError}
use Rattle.xod_base.specs.declared.causes.ReadError.TheVariants.{Damaged}
use Rattle.xod_base.specs.Views.{Tree}

-- A call reads something that may not be readable in a tree. Where the view tells and the tree is there, the answer is
-- what can be read, and bytes are damaged only where it can't be read, or the tree is not there.
pub record Reads {A : Type 0} (tells : Bool) (tree : Option Tree) (read : Tree → Option A) (result : Result A ReadError) : Type 0 where
  pub value : IsTrue tells → IfSome tree (λ map. IfOk result (λ found. read map ≡ Some found))
  pub damaged : IsTrue tells → (place : Place) → result ≡ Err (Damaged place) → IfSome tree (λ map. read map ≡ None)

-- A call finds something of which several will do. Where the view tells and the tree is there, it is one that is wanted,
-- and bytes are damaged only where the tree is not there.
pub record Finds {A : Type 0} (tells : Bool) (tree : Option Tree) (IsWanted : Tree → A → Type 0) (result : Result A ReadError) : Type 0 where
  pub value : IsTrue tells → IfSome tree (λ map. IfOk result (IsWanted map))
  pub damaged : IsTrue tells → (place : Place) → result ≡ Err (Damaged place) → tree ≡ None
