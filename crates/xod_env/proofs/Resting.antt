-- Calls in which no time passes, before and after others, and what holds over them.
use Rattle.std.proofs.Common.{◌≡◌, ℕ, subst, sym, arith}
use Rattle.xod_log.specs.declared.log.Log.{Log}
use Rattle.xod_log.specs.Standing.{Stands}
use Rattle.xod_root.specs.Roots.{Roots}
use Rattle.xod_volume.specs.Crash.{Passes, Rests}
use Rattle.xod_volume.specs.Files.{Files}
use Rattle.xod_env.specs.Envs.{IsAt, IsSteady}

-- ---- moments

-- the present images are among those that were present
pub still_left : (before now : ℕ) (past images : ℕ → Files → Type 0) → Rests before now past images → (left : Files) → images now left → past before left
still_left before now past images rests left is = rests.same before left (subst (λ (n : ℕ). images n left) rests.still is)

pub left_still : (before now : ℕ) (past images : ℕ → Files → Type 0) → Rests before now past images → (left : Files) → past before left → images now left
left_still before now past images rests left is = subst (λ (n : ℕ). images n left) (sym rests.still) (rests.kept before left is)

module _ (t0 t1 t2 : ℕ) (i0 i1 i2 : ℕ → Files → Type 0) where
  module _ (step : Files → Files → Type 0) where
    pub rest_before : Rests t0 t1 i0 i1 → Passes t1 t2 i1 i2 step → Passes t0 t2 i0 i2 step
    rest_before first second = record {
      later = omega (arith, first.still, second.later);
      same = λ m c le im. first.same m c (second.same m c (omega (arith, first.still, le)) im);
      kept = λ m c le im. second.kept m c (omega (arith, first.still, le)) (first.kept m c im);
      each = λ m c ge le im.
          let from = second.each m c (omega (arith, first.still, ge)) le im in
          (from.0, subst (λ (n : ℕ). i0 n from.0) first.still (first.same t1 from.0 from.1), from.2);
    }

    pub rest_behind : Passes t0 t1 i0 i1 step → Rests t1 t2 i1 i2 → Passes t0 t2 i0 i2 step
    rest_behind first second = record {
      later = omega (arith, first.later, second.still);
      same = λ m c le im. first.same m c le (second.same m c im);
      kept = λ m c le im. second.kept m c (first.kept m c le im);
      each = λ m c ge le im. first.each m c ge (omega (arith, second.still, le)) (second.same m c im);
    }

-- where no time passes each image is one that was
pub rest_alone : (t0 t1 : ℕ) (i0 i1 : ℕ → Files → Type 0) (step : Files → Files → Type 0) → ((left : Files) → step left left) → Rests t0 t1 i0 i1 → Passes t0 t1 i0 i1 step
rest_alone t0 t1 i0 i1 step here rests = record {
  later = omega (arith, rests.still);
  same = λ m c le im. rests.same m c im;
  kept = λ m c le im. rests.kept m c im;
  each = λ m c ge le im. (c, subst (λ (n : ℕ). i0 n c) (omega (arith, ge, le, rests.still)) (rests.same m c im), here c);
}

-- ---- an environment

module _ (log : Log) (files : Files) (past images : Files → Type 0) (fewer : (left : Files) → images left → past left) where
  -- with no image more the log stands
  pub stands_still : Stands log files past → Stands log files images
  stands_still stands = record {
    has_body = stands.has_body;
    has_ends = stands.has_ends;
    size = stands.size;
    opened = stands.opened;
    at_rest = stands.at_rest;
    each = λ left is. stands.each left (fewer left is);
    settled = λ sealed. record {
      body = λ left is. (stands.settled sealed).body left (fewer left is);
      ends = λ left is. (stands.settled sealed).ends left (fewer left is);
    };
    last = stands.last;
  }

  -- and an environment is at its commit
  pub at_still : (roots : Roots) (commit : ℕ) → IsAt log roots commit files past → IsAt log roots commit files images
  at_still roots commit at = record {
    stands = stands_still at.stands;
    file_fits = at.file_fits;
    end_fits = at.end_fits;
    back_fits = at.back_fits;
    newest = at.newest;
    maps = at.maps;
    tables = at.tables;
    first_file = at.first_file;
    first_mark = at.first_mark;
    first_seal = at.first_seal;
    top = at.top;
    reaches = at.reaches;
  }

  pub steady_still : IsSteady log files past → IsSteady log files images
  steady_still steady = record {
    sound = λ left is. steady.sound left (fewer left is);
    beside = λ file no_body no_ends there left is. steady.beside file no_body no_ends there left (fewer left is);
  }

module _ (log : Log) (before now : Files) (t0 t1 : ℕ) (i0 i1 : ℕ → Files → Type 0) (same : now ≡ before) (rests : Rests t0 t1 i0 i1) where
  -- over a call that only reads
  pub stands_over : Stands log before (i0 t0) → Stands log now (i1 t1)
  stands_over stands =
      subst (λ (files : Files). Stands log files (i1 t1)) (sym same)
      (stands_still log before (i0 t0) (i1 t1) (still_left t0 t1 i0 i1 rests) stands)

  pub at_over : (roots : Roots) (commit : ℕ) → IsAt log roots commit before (i0 t0) → IsAt log roots commit now (i1 t1)
  at_over roots commit at =
      subst (λ (files : Files). IsAt log roots commit files (i1 t1)) (sym same)
      (at_still log before (i0 t0) (i1 t1) (still_left t0 t1 i0 i1 rests) roots commit at)

  pub steady_over : IsSteady log before (i0 t0) → IsSteady log now (i1 t1)
  steady_over steady =
      subst (λ (files : Files). IsSteady log files (i1 t1)) (sym same)
      (steady_still log before (i0 t0) (i1 t1) (still_left t0 t1 i0 i1 rests) steady)
