-- How the images go over several calls of a volume, one after another.
use Rattle.std.proofs.Common.{◌⊎◌, ◌≡◌, ◌≤◌, inl, inr, ℕ, arith, subst}
use Rattle.std.proofs.lemmas.Bool.{cases_lt}
use Rattle.xod_volume.specs.Files.{Files}
use Rattle.xod_volume.specs.Crash.{Passes, LeftSince}
use Rattle.xod_log.specs.Runs.{Run}

module _ (t0 : ℕ) (i0 : ℕ → Files → Type 0) (P : Files → Files → Type 0) where
  -- before the first call
  pub begun : (N : Files → Files → Type 0) → ((was : Files) → i0 t0 was → N was was) → ((was left : Files) → i0 t0 was → N was left → P was left) → Run t0 t0 i0 i0 P N
  begun N here fine = record {
    passes = record {
      later = omega arith;
      same = λ m c le i. i;
      kept = λ m c le i. i;
      each = λ m c ge le i.
          let is : m ≡ t0 = omega arith in
          let now : i0 t0 c = subst (λ (k : ℕ). i0 k c) is i in
          (c, now, fine c c now (here c now));
    };
    present = λ c i. (c, i, here c i);
  }

  -- one call more
  pub goes : (t1 t2 : ℕ) (i1 i2 : ℕ → Files → Type 0) (N M S : Files → Files → Type 0) → Run t0 t1 i0 i1 P N → Passes t1 t2 i1 i2 S
      → ((was mid left : Files) → i0 t0 was → N was mid → S mid left → M was left) → ((was left : Files) → i0 t0 was → M was left → P was left) → Run t0 t2 i0 i2 P M
  goes t1 t2 i1 i2 N M S run passes moves fine =
      let first_later : t0 ≤ t1 = run.passes.later in
      let then_later : t1 ≤ t2 = passes.later in
      let here : (m : ℕ) (c : Files) → t1 ≤ m → m ≤ t2 → i2 m c → (was : Files) × i0 t0 was × M was c =
      λ m c ge le i.
      let from = passes.each m c ge le i in
      let first = run.present from.0 from.1 in
      (first.0, first.1, moves first.0 from.0 c first.1 first.2 from.2)
      in
      record {
        passes = record {
          later = omega arith;
          same = λ m c le i. run.passes.same m c le (passes.same m c (omega (arith, le, first_later)) i);
          kept = λ m c le i. passes.kept m c (omega (arith, le, first_later)) (run.passes.kept m c le i);
          each = λ m c ge le i. elim (cases_lt m t1) [
            | inl lt ↦ run.passes.each m c ge (omega (arith, lt)) (passes.same m c (omega (arith, lt)) i)
            | inr past ↦ let found = here m c past le i in (found.0, found.1, fine found.0 c found.1 found.2)
          ];
        };
        present = λ c i. here t2 c then_later (omega arith) i;
      }

  -- what a sync made sure of
  pub sure : (t1 : ℕ) (i1 : ℕ → Files → Type 0) (N M : Files → Files → Type 0) → Run t0 t1 i0 i1 P N
      → ((was left : Files) → i0 t0 was → i1 t1 left → N was left → M was left) → Run t0 t1 i0 i1 P M
  sure t1 i1 N M run more = record {
    passes = run.passes;
    present = λ c i. let first = run.present c i in (first.0, first.1, more first.0 c first.1 i first.2);
  }

-- a call in which no time passed left the present images as they were
pub unmoved : (t1 t2 : ℕ) (i1 i2 : ℕ → Files → Type 0) (S : Files → Files → Type 0) → t2 ≡ t1 → Passes t1 t2 i1 i2 S → (left : Files) → i2 t2 left → i1 t1 left
unmoved t1 t2 i1 i2 S is passes c i =
    let at : i2 t1 c = subst (λ (k : ℕ). i2 k c) is i in
    passes.same t1 c (omega arith) at

-- ---- calls of which each leaves what the step says

-- before the first call
pub rested : (t : ℕ) (i : ℕ → Files → Type 0) (P : Files → Files → Type 0) → ((was : Files) → i t was → P was was) → Passes t t i i P
rested t i P here = record {
  later = omega arith;
  same = λ m c le im. im;
  kept = λ m c le im. im;
  each = λ m c ge le im.
      let is : m ≡ t = omega (arith, ge, le) in
      let now : i t c = subst (λ (k : ℕ). i k c) is im in
      (c, now, here c now);
}

-- a step that says less
pub weakened : (t0 t1 : ℕ) (i0 i1 : ℕ → Files → Type 0) (S P : Files → Files → Type 0) → Passes t0 t1 i0 i1 S
    → ((was left : Files) → i0 t0 was → S was left → P was left) → Passes t0 t1 i0 i1 P
weakened t0 t1 i0 i1 S P passes less = record {
  later = passes.later;
  same = passes.same;
  kept = passes.kept;
  each = λ m c ge le im. let from = passes.each m c ge le im in (from.0, from.1, less from.0 c from.1 from.2);
}

-- one call more, which begins from what may be left at its start
pub joined : (t0 t1 t2 : ℕ) (i0 i1 i2 : ℕ → Files → Type 0) (P S : Files → Files → Type 0) → Passes t0 t1 i0 i1 P → Passes t1 t2 i1 i2 S
    → ((was mid left : Files) → i0 t0 was → i1 t1 mid → P was mid → S mid left → P was left) → Passes t0 t2 i0 i2 P
joined t0 t1 t2 i0 i1 i2 P S first second moves =
    let start : (c : Files) → i1 t1 c → (was : Files) × i0 t0 was × ((P was c) × (i1 t1 c)) = λ c im.
    let from = first.each t1 c first.later (omega arith) im in
    (from.0, from.1, (from.2, im))
    in
    (goes t0 i0 P t1 t2 i1 i2 (λ was c. (P was c) × (i1 t1 c)) P S (record { passes = first; present = start }) second
    (λ was mid left began now step. moves was mid left began now.1 now.0 step)
    (λ was left began now. now)).passes

-- what may be left since a moment before a call was so before the call, or is left since its start
pub since_either : (since before now : ℕ) (past images : ℕ → Files → Type 0) (step : Files → Files → Type 0) → Passes before now past images step
    → (files : Files) → LeftSince since now images files → LeftSince since before past files ⊎ LeftSince before now images files
since_either since before now past images step passes files left = elim (cases_lt left.0 before) [
  | inl earlier ↦ inl (left.0, left.1, omega (arith, earlier), passes.same left.0 files (omega (arith, earlier)) left.3)
  | inr later ↦ inr (left.0, later, left.2, left.3)
]
