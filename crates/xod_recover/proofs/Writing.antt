-- What an opening writes, call after call.
use base.Fml.{GName}
use Rattle.std.proofs.Common.{◌≡◌, ℕ, Bool, List, refl, sym, ◌∙◌, subst, arith, inl, inr}
use Rattle.std.specs.Prelude.{IsTrue, Option}
use Rattle.xod_volume.specs.Files.{Files}
use Rattle.xod_volume.specs.Crash.{Passes}
use Rattle.xod_log.proofs.CallerLemmas.{joined}
use Rattle.xod_recover.specs.Check.{Newest}
use Rattle.xod_recover.specs.Images.{Settled, Stores}
use Rattle.xod_recover.specs.Reads.{OnlyReads}
use Rattle.xod_recover.specs.Stores.{Stored, stored_in}
use Rattle.xod_recover.specs.Tails.{AllNearAsFound, IsFoundIn, IsNearBut, MayUseNext}
use Rattle.xod_recover.specs.Writes.{Writes, Wrote}
use Rattle.xod_recover.proofs.CutImages.{file_long}
use Rattle.xod_recover.proofs.Keeps.{keeps-as, keeps-then, settled-over}

-- one step more
stores-then : (s t : Option Stored) (was mid left : Files) → t ≡ s → Stores s was mid → Stores t mid left → Stores s was left
stores-then s t was mid left is (inl a) (inl b) = inl (b ∙ a)
stores-then s t was mid left is (inr a) (inl b) = inr (b ∙ a)
stores-then s t was mid left is a (inr b) = inr (b ∙ is)

pub stores-passes : (t0 t1 t2 : ℕ) (i0 i1 i2 : ℕ → Files → Type 0) (s t : Option Stored) → t ≡ s → Passes t0 t1 i0 i1 (Stores s) → Passes t1 t2 i1 i2 (Stores t) → Passes t0 t2 i0 i2 (Stores s)
stores-passes t0 t1 t2 i0 i1 i2 s t is first second = joined t0 t1 t2 i0 i1 i2 (Stores s) (Stores t) first second (λ was mid left began now a b. stores-then s t was mid left is a b)

module _ {V : Type 0} {tells : V → Bool} {files : V → Files} {moment : V → ℕ} {may_leave : V → ℕ → Files → Type 0} {leases : V → List (List ℕ)} {refs : V → List GName} {faults : V → ℕ} where
  -- reads leave each image, and add none
  pub reads-passes : {a b : V} (s : Option Stored) → OnlyReads tells files moment may_leave leases refs faults a b → IsTrue (tells a) → Passes (moment a) (moment b) (may_leave a) (may_leave b) (Stores s)
  reads-passes {a} {b} s x told =
      let r = x.rests told in
      record {
        later = omega (arith, r.still);
        same = λ m c le i. r.same m c i;
        kept = λ m c le i. r.kept m c i;
        each = λ m c ge le i.
            let is : m ≡ moment a = omega (arith, ge, le, r.still) in
            (c, subst (λ (k : ℕ). may_leave a k c) is (r.same m c i), inl refl);
      }

  pub reads-settled : {a b : V} → OnlyReads tells files moment may_leave leases refs faults a b → IsTrue (tells a) → Settled (files a) (may_leave a (moment a)) → Settled (files b) (may_leave b (moment b))
  reads-settled {a} {b} x told settled =
      let r = x.rests told in
      settled-over (files a) (files b) (may_leave a (moment a)) (may_leave b (moment b)) (x.same told) (λ left i. r.same (moment a) left (subst (λ (k : ℕ). may_leave b k left) r.still i)) settled

  -- images go on being near
  pub reads-near : {a b : V} {newest : Newest} → OnlyReads tells files moment may_leave leases refs faults a b → IsTrue (tells a) → AllNearAsFound newest (files a) (may_leave a (moment a)) → AllNearAsFound newest (files b) (may_leave b (moment b))
  reads-near {a} {b} {newest} x told near left i =
      let r = x.rests told in
      subst (λ (f : Files). IsNearBut newest newest.file f left) (sym (x.same told)) (near left (r.same (moment a) left (subst (λ (k : ℕ). may_leave b k left) r.still i)))

  pub reads-may : {a b : V} {newest : Newest} → OnlyReads tells files moment may_leave leases refs faults a b → IsTrue (tells a) → MayUseNext newest (files a) (may_leave a (moment a)) → MayUseNext newest (files b) (may_leave b (moment b))
  reads-may {a} {b} {newest} x told may =
      let r = x.rests told in
      subst (λ (f : Files). MayUseNext newest f (may_leave b (moment b))) (sym (x.same told)) (record {
        low = may.low;
        has_body = may.has_body;
        has_ends = may.has_ends;
        near = λ left i. may.near left (r.same (moment a) left (subst (λ (k : ℕ). may_leave b k left) r.still i));
      })

  pub reads-kept : {a b : V} → OnlyReads tells files moment may_leave leases refs faults a b → IsTrue (tells a) → may_leave a (moment a) (files a) → may_leave b (moment b) (files b)
  reads-kept {a} {b} x told i =
      let r = x.rests told in
      subst (λ (f : Files). may_leave b (moment b) f) (sym (x.same told)) (subst (λ (k : ℕ). may_leave b k (files a)) (sym r.still) (r.kept (moment a) (files a) i))

  module _ {newest : Newest} where
    pub writes-reads : {a b : V} → (IsTrue (tells a) → IsFoundIn newest (files a)) → OnlyReads tells files moment may_leave leases refs faults a b → Writes tells files moment may_leave leases refs faults newest a b
    writes-reads {a} {b} found x = record {
      stays = x.stays;
      keeps = λ told. keeps-as newest (files a) (files b) (file_long newest (files a) (found told)) (x.same told);
      kept = reads-kept x;
      crash = λ told near. reads-passes (stored_in (files a)) x told;
    }

    pub wrote-reads : {a b : V} → (IsTrue (tells a) → IsFoundIn newest (files a)) → OnlyReads tells files moment may_leave leases refs faults a b → faults b ≡ faults a → Wrote tells files moment may_leave faults newest a b
    wrote-reads {a} {b} found x same = record {
      found = λ told. subst (IsFoundIn newest) (sym (x.same told)) (found told);
      settled = reads-settled x;
      unfailed = same;
    }

    pub writes-then : {a b c : V} → Writes tells files moment may_leave leases refs faults newest a b → (IsTrue (tells a) → AllNearAsFound newest (files a) (may_leave a (moment a)) → AllNearAsFound newest (files b) (may_leave b (moment b))) → Writes tells files moment may_leave leases refs faults newest b c
        → Writes tells files moment may_leave leases refs faults newest a c
    writes-then {a} {b} {c} x w y =
        let later : IsTrue (tells a) → IsTrue (tells b) = λ told. x.stays.tells ∙ told in
        record {
          stays = record { tells = y.stays.tells ∙ x.stays.tells; leases = y.stays.leases ∙ x.stays.leases; refs = y.stays.refs ∙ x.stays.refs; faults = omega (arith, x.stays.faults, y.stays.faults) };
          keeps = λ told. keeps-then newest (files a) (files b) (files c) (x.keeps told) (y.keeps (later told));
          kept = λ told image. y.kept (later told) (x.kept told image);
          crash = λ told near. stores-passes (moment a) (moment b) (moment c) (may_leave a) (may_leave b) (may_leave c) (stored_in (files a)) (stored_in (files b)) (x.keeps told).stored
              (x.crash told near) (y.crash (later told) (w told near));
        }

    pub wrote-then : {a b c : V} → Writes tells files moment may_leave leases refs faults newest a b → Wrote tells files moment may_leave faults newest a b → Wrote tells files moment may_leave faults newest b c
        → Wrote tells files moment may_leave faults newest a c
    wrote-then {a} {b} {c} x w y =
        let later : IsTrue (tells a) → IsTrue (tells b) = λ told. x.stays.tells ∙ told in
        record {
          found = λ told. y.found (later told);
          settled = λ told settled. y.settled (later told) (w.settled told settled);
          unfailed = y.unfailed ∙ w.unfailed;
        }
