-- An opening as a whole: reads alone, and reads before what was written.
use base.Fml.{GName}
use Rattle.std.proofs.Common.{◌≡◌, ◌<◌, ◌≤◌, ℕ, pred, Bool, List, length, Ok, sym, ◌∙◌, ap, subst, arith, inl, inr}
use Rattle.std.specs.Prelude.{IsTrue, is_some}
use Rattle.std.specs.FinMap.{get}
use Rattle.xod_volume.specs.Files.{Files, bytes_of}
use Rattle.xod_log.specs.Ends.{body_of, ends_of, numbers, numbers_at}
use Rattle.xod_recover.specs.declared.newest.Found.{Found}
use Rattle.xod_recover.specs.Check.{Newest, check}
use Rattle.xod_recover.specs.Found.{IsRooted, newest_of}
use Rattle.xod_recover.specs.Keeping.{KeepsFound}
use Rattle.xod_recover.specs.Reads.{OnlyReads}
use Rattle.xod_recover.specs.Recovers.{Recovers}
use Rattle.xod_recover.specs.Stores.{stored_in}
use Rattle.xod_recover.specs.Tails.{AllNearAsFound, IsFoundIn}
use Rattle.xod_recover.specs.Writes.{Writes}
use Rattle.xod_recover.proofs.CutKeeps.{settled_found}
use Rattle.xod_recover.proofs.Keeps.{keeps-as}
use Rattle.xod_recover.proofs.Newests.{check-newest}
use Rattle.xod_recover.proofs.Writing.{reads-kept, reads-passes}

-- the body goes up to the end
long-from : (files : Files) (newest : Newest) → check files ≡ Ok newest → newest.end ≤ length (bytes_of files (body_of newest.file))
long-from files newest e = elim (check-newest files newest e) [
  | inl is ↦ let none : newest.end ≡ 0 = ap (λ (n : Newest). n.end) is.1 in omega (arith, none)
  | inr is ↦ is.long
]

pub is-found : (files : Files) (found : Found) → 0 < found.marks → IsRooted found → check files ≡ Ok (newest_of found)
    → (0 < found.marks → numbers_at (bytes_of files (ends_of found.file)) (pred found.marks) ≡ numbers found.end found.back) → IsFoundIn (newest_of found) files
is-found files found some rooted decided spelled = record { some = some; fits = rooted.fits; decided = decided; says = spelled some }

pub same-newest : (a b : Newest) (files : Files) → check files ≡ Ok a → check files ≡ Ok b → a ≡ b
same-newest a b files first second = let both : Ok a ≡ Ok b = sym first ∙ second in cc both

module _ {V : Type 0} {tells : V → Bool} {files : V → Files} {moment : V → ℕ} {may_leave : V → ℕ → Files → Type 0} {leases : V → List (List ℕ)} {refs : V → List GName} {faults : V → ℕ} where
  -- nothing was written
  pub recovers-reads : {a b : V} → OnlyReads tells files moment may_leave leases refs faults a b → Recovers tells files moment may_leave leases refs faults a b
  recovers-reads {a} {b} x = record {
    stays = x.stays;
    decided = λ told. ap check (x.same told);
    stored = λ told. ap stored_in (x.same told);
    there = λ told file. ap (λ (f : Files). is_some (get f file)) (x.same told);
    keeps = λ told newest decided. keeps-as newest (files a) (files b) (long-from (files a) newest decided) (x.same told);
    kept = reads-kept x;
    near = λ told newest decided near. reads-passes (stored_in (files a)) x told;
    crash = λ told settled. reads-passes (stored_in (files a)) x told;
  }

  -- something was, over what was found
  pub recovers-writes : {a b : V} (newest : Newest) → (IsTrue (tells a) → check (files a) ≡ Ok newest) → (IsTrue (tells a) → IsFoundIn newest (files a)) → Writes tells files moment may_leave leases refs faults newest a b → Recovers tells files moment may_leave leases refs faults a b
  recovers-writes {a} {b} newest decided found x = record {
    stays = x.stays;
    decided = λ told. (x.keeps told).decided;
    stored = λ told. (x.keeps told).stored;
    there = λ told. (x.keeps told).there;
    keeps = λ told other e. subst (λ (n : Newest). KeepsFound n (files a) (files b)) (same-newest newest other (files a) (decided told) e) (x.keeps told);
    kept = x.kept;
    near = λ told other e near. x.crash told (subst (λ (n : Newest). AllNearAsFound n (files a) (may_leave a (moment a))) (sym (same-newest newest other (files a) (decided told) e)) near);
    crash = λ told settled. x.crash told (settled_found newest (files a) (found told) (found told).fits (may_leave a (moment a)) settled);
  }
