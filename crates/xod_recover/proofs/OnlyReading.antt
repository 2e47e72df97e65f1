-- Reads of a volume in a row are one.
use base.Fml.{GName}
use Rattle.std.proofs.Common.{◌≤◌, ℕ, Bool, List, refl, sym, ◌∙◌, subst, arith}
use Rattle.std.specs.Prelude.{IsTrue}
use Rattle.xod_base.specs.Causes.{Rose}
use Rattle.xod_volume.specs.Files.{Files}
use Rattle.xod_recover.specs.Reads.{OnlyReads}

module _ {V : Type 0} {tells : V → Bool} {files : V → Files} {moment : V → ℕ} {may_leave : V → ℕ → Files → Type 0} {leases : V → List (List ℕ)} {refs : V → List GName} {faults : V → ℕ} where
  pub reads-none : {a : V} → OnlyReads tells files moment may_leave leases refs faults a a
  reads-none = record {
    stays = record { tells = refl; leases = refl; refs = refl; faults = omega arith };
    same = λ told. refl;
    rests = λ told. record { still = refl; same = λ m f left. left; kept = λ m f left. left };
  }

  pub reads-then : {a b c : V} → OnlyReads tells files moment may_leave leases refs faults a b → OnlyReads tells files moment may_leave leases refs faults b c → OnlyReads tells files moment may_leave leases refs faults a c
  reads-then {a} {b} {c} x y =
      let later : IsTrue (tells a) → IsTrue (tells b) = λ told. x.stays.tells ∙ told in
      record {
        stays = record { tells = y.stays.tells ∙ x.stays.tells; leases = y.stays.leases ∙ x.stays.leases; refs = y.stays.refs ∙ x.stays.refs; faults = omega (arith, x.stays.faults, y.stays.faults) };
        same = λ told. y.same (later told) ∙ x.same told;
        rests = λ told. let first = x.rests told in let second = y.rests (later told) in record {
          still = second.still ∙ first.still;
          same = λ m f left. first.same m f (second.same m f left);
          kept = λ m f left. second.kept m f (first.kept m f left);
        };
      }

  -- what is known of the files after reads is known of them as they were
  pub reads-over : {a b : V} (P : Files → Type 0) → OnlyReads tells files moment may_leave leases refs faults a b → IsTrue (tells a) → (IsTrue (tells b) → P (files b)) → P (files a)
  reads-over P x told known = subst P (x.same told) (known (x.stays.tells ∙ told))

  pub reads-on : {a b : V} (P : Files → Type 0) → OnlyReads tells files moment may_leave leases refs faults a b → (IsTrue (tells a) → P (files a)) → IsTrue (tells b) → P (files b)
  reads-on {a} {b} P x known told = let first : IsTrue (tells a) = sym x.stays.tells ∙ told in subst P (sym (x.same first)) (known first)

-- a count that rose after it had not fallen, and before
pub rose-later : (a b c : ℕ) → a ≤ b → Rose b c → Rose a c
rose-later a b c le rose = omega (arith, le, rose)
