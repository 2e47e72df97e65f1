-- What holds of acts, of changes and of touches, which a transaction stands on.
use Rattle.std.specs.Prelude.{◌≡◌, ℕ, List}
use Rattle.std.specs.FinMap.{empty}
use Rattle.xod_journal.specs.Laws.{ExpansionsFit, NamesStay}
use Rattle.xod_overlay.specs.Laws.{UntouchedIsBelow}
use Rattle.xod_overlay.specs.Marks.{Mark, TouchMap, touching}
use Rattle.xod_commit.specs.Blocks.{Fit, FitsTouch, IsTreeNumber}
use Rattle.xod_tables.specs.Touches.{TouchesShowAsWrites}
use Rattle.xod_writes.specs.Laws.{TablesFollowAllChanges}

-- no touches may be committed
abbrev pub NoneFit : Type 0
NoneFit = (touches : ℕ → TouchMap) → ((tree : ℕ) → touches tree ≡ empty) → Fit touches

-- and so may one more that fits
abbrev pub MoreFit : Type 0
MoreFit = (touches : ℕ → TouchMap) (tree : ℕ) (key : List ℕ) (mark : Mark) → Fit touches → IsTreeNumber tree → FitsTouch key mark
    → Fit (touching touches tree key mark)

-- The laws of the crates below, in one.
pub record TxnLaws : Type 0 where
  pub none : NoneFit
  pub more : MoreFit
  pub below : UntouchedIsBelow
  pub show : TouchesShowAsWrites
  pub fit : ExpansionsFit
  pub named : NamesStay
  pub follow : TablesFollowAllChanges
