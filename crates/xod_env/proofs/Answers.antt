-- Answers of a call of the log.
use Rattle.std.proofs.Common.{◌≡◌, ℕ, true, Result, Ok, Err, IfOk, IsErr, OnOk, IsErrOf, is_ok, refl}
use Rattle.xod_log.specs.declared.error.LogError.{LogError}
use Rattle.xod_log.specs.declared.error.LogError.TheVariants as log_error
use Rattle.xod_log.specs.declared.error.LogError.TheVariants.{Device, Memory, NumbersSpent}

module _ {A : Type 0} where
  pub on-ok : (r : Result A LogError) (P : Type 0) → (is_ok r ≡ true → P) → OnOk r P
  on-ok (Ok x) P h = h refl
  on-ok (Err e) P h = tt

  pub not-err : (r : Result A LogError) (e : LogError) → is_ok r ≡ true → IsErrOf r e → ⊥
  not-err (Ok x) e ok bad = absurd cc
  not-err (Err f) e ok bad = absurd cc

  -- the error is none of the device
  pub by-error : (r : Result A LogError) (P : Type 0) → IsErr r → ¬ (IsErrOf r log_error.Device) → ((last : ℕ) → IsErrOf r (log_error.NumbersSpent last) → P) → (IsErrOf r log_error.Memory → P) → P
  by-error (Ok x) P is fine spent memory = absurd cc
  by-error (Err Device) P is fine spent memory = absurd (fine refl)
  by-error (Err (NumbersSpent last)) P is fine spent memory = spent last refl
  by-error (Err Memory) P is fine spent memory = memory refl

  -- two facts of what came out, and so a third
  pub ok-both : (r : Result A LogError) (P Q R : A → Type 0) → IfOk r P → IfOk r Q → ((x : A) → is_ok r ≡ true → P x → Q x → R x) → IfOk r R
  ok-both (Ok x) P Q R p q more = more x refl p q
  ok-both (Err e) P Q R p q more = tt
