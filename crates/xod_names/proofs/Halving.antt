-- The end of a list of names lies between two numbers.
use base.Fml.{GName}
use Rattle.std.proofs.Common.{◌≡◌, ℕ, Bool, IsTrue, List, Option, Some, None, Ok, IfSome, is_ok, ap, ◌∙◌, ◌-◌, ◌<◌, ◌≤◌, true≢false, arith}
use Rattle.std.specs.Prelude.{IsSome}
use Rattle.std.specs.FinMap.{get}
use Rattle.xod_base.specs.declared.answer.NameKind.{NameKind}
use Rattle.xod_base.specs.declared.limits.TheConstants.{MOST_NAMES}
use Rattle.xod_base.specs.Views.{Tree, Trees, KeepsView}
use Rattle.xod_tables.specs.Keys.{name_key}
use Rattle.xod_tables.specs.declared.trees.TheConstants.{NAMES}
use Rattle.xod_range.specs.Reads.{Finds}
use Rattle.xod_keys.specs.Readings.{IsNamesEnd}

-- below the low number there is a name or nothing, and at the high one no name or the limit
pub record IsBetween (list : NameKind) (tree : Tree) (low high : ℕ) : Type 0 where
  pub below : 0 < low → IsSome (get tree (name_key list (low - 1)))
  pub above : high < MOST_NAMES → get tree (name_key list high) ≡ None

-- What the halving has found: the view is as it was, and the end of the list lies between the two numbers.
pub record Halved {View : Type 0} (tells : View → Bool) (trees : View → Trees) (commit : View → ℕ) (refs : View → List GName) (faults : View → ℕ)
    (list : NameKind) (old now : View) (low high : ℕ) : Type 0 where
  pub keeps : KeepsView tells trees commit refs faults old now
  pub steady : faults now ≡ faults old
  pub order : low ≤ high
  pub most : high ≤ MOST_NAMES
  pub ends : IsTrue (tells old) → IfSome (trees old NAMES) (λ map. IsBetween list map low high)

module _ {View : Type 0} {tells : View → Bool} {trees : View → Trees} {commit : View → ℕ} {refs : View → List GName} {faults : View → ℕ}
    {list : NameKind} where
  -- the two numbers have met
  pub halving-ends : (old now : View) (low high : ℕ) → Halved tells trees commit refs faults list old now low high → high ≤ low
      → Finds (tells old) (trees old NAMES) (IsNamesEnd list) (Ok low)
  halving-ends old now low high h met = record {
    value = λ told. by (trees old NAMES) (h.ends told);
    damaged = λ told place is. absurd (true≢false (ap is_ok is));
  }
    where
      same : low ≡ high
      same = let order = h.order in omega (arith, order, met)

      by : (o : Option Tree) → IfSome o (λ map. IsBetween list map low high) → IfSome o (λ map. IsNamesEnd list map low)
      by None b = tt
      by (Some map) b = record {
        most = let order = h.order in let most = h.most in omega (arith, order, most);
        below = b.below;
        above = λ less. ap (λ (n : ℕ). get map (name_key list n)) same ∙ b.above (omega (arith, same, less));
      }
