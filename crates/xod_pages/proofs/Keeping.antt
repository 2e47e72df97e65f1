-- What stays of a lease over reads in a row.
use base.Fml.{GName}
use Rattle.std.proofs.Common.{ℕ, Bool, List, refl, ◌∙◌, arith}
use Rattle.xod_volume.specs.Files.{Files}
use Rattle.xod_pages.specs.Lent.{KeepsLease}

module _ {L : Type 0} {tells : L → Bool} {list : L → List ℕ} {lent : L → Files} {refs : L → List GName} {faults : L → ℕ} where
  pub keeps-first : {a : L} → KeepsLease tells list lent refs faults a a
  keeps-first = record { tells_same = refl; list_same = refl; lent_same = refl; refs_same = refl; never_falls = omega arith }

  pub keeps-then : {a b c : L} → KeepsLease tells list lent refs faults a b → KeepsLease tells list lent refs faults b c → KeepsLease tells list lent refs faults a c
  keeps-then x y = record {
    tells_same = y.tells_same ∙ x.tells_same;
    list_same = y.list_same ∙ x.list_same;
    lent_same = y.lent_same ∙ x.lent_same;
    refs_same = y.refs_same ∙ x.refs_same;
    never_falls = omega arith;
  }
