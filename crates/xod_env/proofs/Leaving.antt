-- What is left of a store over one call and another.
use base.Fml.{GName}
use Rattle.std.proofs.Common.{◌≡◌, ℕ, Bool, List, IsTrue, sym, ◌∙◌, ap, subst, arith, inl, inr}
use Rattle.xod_log.proofs.CallerLemmas.{joined}
use Rattle.xod_recover.specs.Check.{check}
use Rattle.xod_recover.specs.Images.{Settled, Stores}
use Rattle.xod_recover.specs.Reads.{OnlyReads}
use Rattle.xod_recover.specs.Recovers.{Recovers}
use Rattle.xod_recover.specs.Stores.{stored_in}
use Rattle.xod_volume.specs.Files.{Files}
use Rattle.xod_volume.specs.Leases.{Stays}
use Rattle.xod_env.specs.Opening.{LeavesStored}
use Rattle.xod_env.proofs.Resting.{left_still, rest_behind, still_left}

-- what an image stores that comes of one that stores this, or as much as before, or this
twice_stored : (here there : Files) (was mid left : Files) → stored_in there ≡ stored_in here → Stores (stored_in here) was mid → Stores (stored_in there) mid left → Stores (stored_in here) was left
twice_stored here there was mid left same first second = elim second [
  | inl as_mid ↦ elim first [
    | inl as_was ↦ inl (as_mid ∙ as_was)
    | inr is ↦ inr (as_mid ∙ is)
  ]
  | inr is ↦ inr (is ∙ same)
]

module _ (before now : Files) (t0 t1 : ℕ) (i0 i1 : ℕ → Files → Type 0) where
  settled_fewer : ((left : Files) → i1 t1 left → i0 t0 left) → Settled before (i0 t0) → Settled before (i1 t1)
  settled_fewer fewer settled = record {
    each_file = λ file there left is. settled.each_file file there left (fewer left is);
    alike = λ left is. settled.alike left (fewer left is);
    above = λ left is. settled.above left (fewer left is);
  }

  -- files that are as they were are settled with no image more
  pub settled_over : now ≡ before → ((left : Files) → i1 t1 left → i0 t0 left) → Settled before (i0 t0) → Settled now (i1 t1)
  settled_over same fewer settled = subst (λ (files : Files). Settled files (i1 t1)) (sym same) (settled_fewer fewer settled)

module _ {V : Type 0} (tells : V → Bool) (files : V → Files) (moment : V → ℕ) (may_leave : V → ℕ → Files → Type 0) (leases : V → List (List ℕ)) (refs : V → List GName) (faults : V → ℕ) where
  abbrev StaysAt : V → V → Type 0
  StaysAt a b = Stays (tells a) (tells b) (leases a) (leases b) (refs a) (refs b) (faults a) (faults b)

  stays_then : (a b c : V) → StaysAt a b → StaysAt b c → StaysAt a c
  stays_then a b c first second = record {
    tells = second.tells ∙ first.tells;
    leases = second.leases ∙ first.leases;
    refs = second.refs ∙ first.refs;
    faults = omega (arith, first.faults, second.faults);
  }

  told_then : (a b : V) → StaysAt a b → IsTrue (tells a) → IsTrue (tells b)
  told_then a b stays told = subst (λ (t : Bool). IsTrue t) (sym stays.tells) told

  -- what an opening leaves
  pub recovers_leaves : (a b : V) → Recovers tells files moment may_leave leases refs faults a b → LeavesStored tells files moment may_leave leases refs faults a b
  recovers_leaves a b r = record {
    stays = r.stays;
    decided = r.decided;
    stored = r.stored;
    kept = r.kept;
    crash = r.crash;
  }

  -- and then a call that leaves as much of what is settled
  pub leaves_then : (a b c : V) → LeavesStored tells files moment may_leave leases refs faults a b
      → (IsTrue (tells a) → Settled (files a) (may_leave a (moment a)) → Settled (files b) (may_leave b (moment b)))
      → LeavesStored tells files moment may_leave leases refs faults b c → LeavesStored tells files moment may_leave leases refs faults a c
  leaves_then a b c first settled second = record {
    stays = stays_then a b c first.stays second.stays;
    decided = λ told. second.decided (told_then a b first.stays told) ∙ first.decided told;
    stored = λ told. second.stored (told_then a b first.stays told) ∙ first.stored told;
    kept = λ told left. second.kept (told_then a b first.stays told) (first.kept told left);
    crash = λ told is.
        joined (moment a) (moment b) (moment c) (may_leave a) (may_leave b) (may_leave c) (Stores (stored_in (files a))) (Stores (stored_in (files b)))
        (first.crash told is) (second.crash (told_then a b first.stays told) (settled told is))
        (λ was mid left began now one other. twice_stored (files a) (files b) was mid left (first.stored told) one other);
  }

  -- or one that only reads
  pub leaves_reads : (a b c : V) → LeavesStored tells files moment may_leave leases refs faults a b → OnlyReads tells files moment may_leave leases refs faults b c
      → LeavesStored tells files moment may_leave leases refs faults a c
  leaves_reads a b c first reads = record {
    stays = stays_then a b c first.stays reads.stays;
    decided = λ told. ap check (reads.same (told_then a b first.stays told)) ∙ first.decided told;
    stored = λ told. ap stored_in (reads.same (told_then a b first.stays told)) ∙ first.stored told;
    kept = λ told left.
        let told1 = told_then a b first.stays told in
        subst (may_leave c (moment c)) (sym (reads.same told1)) (left_still (moment b) (moment c) (may_leave b) (may_leave c) (reads.rests told1) (files b) (first.kept told left));
    crash = λ told is. rest_behind (moment a) (moment b) (moment c) (may_leave a) (may_leave b) (may_leave c) (Stores (stored_in (files a))) (first.crash told is) (reads.rests (told_then a b first.stays told));
  }

  -- what is settled is so after a call that only reads
  pub settled_reads : (b c : V) → OnlyReads tells files moment may_leave leases refs faults b c → IsTrue (tells b)
      → Settled (files b) (may_leave b (moment b)) → Settled (files c) (may_leave c (moment c))
  settled_reads b c reads told settled =
      settled_over (files b) (files c) (moment b) (moment c) (may_leave b) (may_leave c) (reads.same told)
      (still_left (moment b) (moment c) (may_leave b) (may_leave c) (reads.rests told)) settled
