-- Calls that read, one after another.
use base.Fml.{GName}
use Rattle.std.proofs.Common.{◌≡◌, ℕ, Bool, List, Result, Ok, Err, subst, ◌∙◌, arith}
use Rattle.xod_base.specs.declared.causes.Place.{Place}
use Rattle.xod_base.specs.declared.causes.ReadError.{ReadError}
use Rattle.xod_base.specs.declared.causes.ReadError.TheVariants.{Damaged}
use Rattle.xod_base.specs.Rows.{RowsValue}
use Rattle.xod_base.specs.Views.{CountsFaults, KeepsView, Trees}
use Rattle.xod_tables.specs.Tables.{AreTables}
use Rattle.xod_reader.specs.Told.{ReadsRows}
use Rattle.xod_acts.specs.Telling.{Looks}

module _ {View : Type 0} {tells : View → Bool} {trees : View → Trees} {commit : View → ℕ} {refs : View → List GName} {faults : View → ℕ} where
  keeps_on : {first view next : View} → KeepsView tells trees commit refs faults first view → KeepsView tells trees commit refs faults view next
      → KeepsView tells trees commit refs faults first next
  keeps_on k l = record {
    tells_same = l.tells_same ∙ k.tells_same;
    trees_same = l.trees_same ∙ k.trees_same;
    commit_same = l.commit_same ∙ k.commit_same;
    refs_same = l.refs_same ∙ k.refs_same;
    never_falls = let h = k.never_falls in let g = l.never_falls in omega (arith, h, g);
  }

  module _ {A B : Type 0} {old middle new : View} {next_of : RowsValue → B} {found : A} {result : Result B ReadError} where
    -- a call behind one that answered is as if it were the first
    pub behind : CountsFaults (faults old) (faults middle) (Ok found) → KeepsView tells trees commit refs faults old middle
        → ReadsRows (tells middle) (trees middle) next_of result → CountsFaults (faults middle) (faults new) result
        → KeepsView tells trees commit refs faults middle new
        → Looks tells trees commit refs faults next_of old new result
    behind counted kept reads counts keeps = record {
      reads = subst (λ (ts : Trees). ReadsRows (tells old) ts next_of result) kept.trees_same
          (subst (λ (b : Bool). ReadsRows b (trees middle) next_of result) kept.tells_same reads);
      counts = subst (λ (n : ℕ). CountsFaults n (faults new) result) counted.ok counts;
      keeps = keeps_on kept keeps;
    }

  -- what was found is damaged, as it never is in tables
  pub spoilt : {A B : Type 0} {old new : View} {of_rows : RowsValue → A} {found : A} → Looks tells trees commit refs faults of_rows old new (Ok found)
      → {wanted : RowsValue → B} (place : Place) → ((rows : RowsValue) → AreTables (trees old) rows → found ≡ of_rows rows → ⊥)
      → Looks tells trees commit refs faults wanted old new (Err (Damaged place))
  spoilt looks place never = record {
    reads = record { value = λ told rows are. tt; damaged = λ told rows are other e. never rows are (looks.reads.value told rows are) };
    counts = record { device = λ e. cc; memory = λ e. cc; ok = tt };
    keeps = looks.keeps;
  }
