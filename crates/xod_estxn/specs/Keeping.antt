-- What is known again of a view that was lent with an overlay over it.
use base.Fml.{GName}
use Rattle.std.specs.Prelude.{◌≡◌, ◌≤◌, ℕ, Bool, List}

-- It is as no call of a view changes it, but that nothing is said of its trees: the overlay shows others.
pub record KeepsLent {View : Type 0} (tells : View → Bool) (commit : View → ℕ) (refs : View → List GName) (faults : View → ℕ) (old new : View) : Type 0 where
  pub tells_same : tells new ≡ tells old
  pub commit_same : commit new ≡ commit old
  pub refs_same : refs new ≡ refs old
  pub never_falls : faults old ≤ faults new
