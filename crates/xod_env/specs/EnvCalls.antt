-- What the calls of an environment answer and leave.
use base.Fml.{GName}
use Rattle.std.specs.Prelude.{◌≡◌, ◌≤◌, ◌↔◌, ℕ, Bool, true, List, Result, IsErrOf, IsTrue}
use Rattle.xod_base.specs.Causes.{Rose}
use Rattle.xod_base.specs.declared.causes.Place.{Place}
use Rattle.xod_root.specs.Roots.{Roots}
use Rattle.xod_volume.specs.Crash.{Rests}
use Rattle.xod_volume.specs.Files.{Files}
use Rattle.xod_env.specs.declared.error.EnvError.{EnvError}
use Rattle.xod_env.specs.declared.error.EnvError.TheVariants.{Broken, Device, Damaged, NumbersSpent}

-- How a call is refused that reads no record and needs no number: it is broken exactly where the environment was, and the
-- device failed only where the count of faults rose. That stands still in each other answer.
pub record Refuses {A : Type 0} (was_broken : Bool) (faults_before faults_now : ℕ) (result : Result A EnvError) : Type 0 where
  pub broken_exactly : IsErrOf result Broken ↔ (was_broken ≡ true)
  pub device : IsErrOf result Device → Rose faults_before faults_now
  pub unfailed : ¬ (IsErrOf result Device) → faults_now ≡ faults_before
  pub undamaged : (place : Place) → ¬ (IsErrOf result (Damaged place))
  pub numbers_left : (last : ℕ) → ¬ (IsErrOf result (NumbersSpent last))

-- The newest commit, its roots and the number of log files are as they were.
pub record KeepsNewest (roots_before roots_now : Roots) (commit_before commit_now count_before count_now : ℕ) : Type 0 where
  pub roots : roots_now ≡ roots_before
  pub commit : commit_now ≡ commit_before
  pub count : count_now ≡ count_before

-- Neither the files nor what a crash may leave of them changed. The members are those of a volume's trait.
pub record KeepsFiles {V : Type 0} (tells : V → Bool) (files : V → Files) (moment : V → ℕ) (may_leave : V → ℕ → Files → Type 0) (refs : V → List GName) (faults : V → ℕ) (before now : V) : Type 0 where
  pub tells_same : tells now ≡ tells before
  pub refs_same : refs now ≡ refs before
  pub never_falls : faults before ≤ faults now
  pub same : IsTrue (tells before) → files now ≡ files before
  pub rests : IsTrue (tells before) → Rests (moment before) (moment now) (may_leave before) (may_leave now)
