-- What a call of an environment answers that reads no record and needs no number.
use Rattle.std.specs.Prelude.{◌≡◌, ℕ, Bool, true, false, Result, Ok, Err}
use Rattle.xod_base.specs.Causes.{Rose}
use Rattle.xod_env.specs.declared.error.EnvError.{EnvError}
use Rattle.xod_env.specs.declared.error.EnvError.TheVariants.{Broken, Device, Damaged, NumbersSpent, Memory}

-- The device failed where the count rose, and the environment was broken exactly where the error says so; want of memory
-- goes before that.
abbrev pub HasEnvReason : Bool → ℕ → ℕ → EnvError → Type 0
HasEnvReason was_broken before now Broken = was_broken ≡ true
HasEnvReason was_broken before now Device = Rose before now × (was_broken ≡ false)
HasEnvReason was_broken before now (Damaged place) = ⊥
HasEnvReason was_broken before now (NumbersSpent last) = ⊥
HasEnvReason was_broken before now Memory = Unit {0}

-- and where it answered, the environment was not broken
abbrev pub EnvAnswers : {A : Type 0} → Bool → ℕ → ℕ → Result A EnvError → Type 0
EnvAnswers was_broken before now (Ok answer) = was_broken ≡ false
EnvAnswers was_broken before now (Err error) = HasEnvReason was_broken before now error
