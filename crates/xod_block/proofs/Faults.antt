-- How the count of faults goes with what calls in a row answer.
use Rattle.std.proofs.Common.{◌≡◌, ℕ, Result, Ok, Err, ap, subst}
use Rattle.std.specs.Result.{IsErrAnd}
use Rattle.xod_base.specs.declared.causes.ReadError.{ReadError}
use Rattle.xod_base.specs.declared.causes.ReadError.TheVariants.{Device, Memory}
use Rattle.xod_base.specs.Views.{CountsFaults}

-- what a last call says, where the calls before it left the count as it was
pub counts-first : {A : Type 0} (before first now : ℕ) (result : Result A ReadError) → first ≡ before → CountsFaults first now result → CountsFaults before now result
counts-first before first now result same counts = subst (λ (count : ℕ). CountsFaults count now result) same counts

-- an error of a call that is answered in place of something else
pub counts-error : {A B : Type 0} (before now : ℕ) (error : ReadError) (result : Result B ReadError) → IsErrAnd result (λ answered. answered ≡ error) → CountsFaults {A = A} before now (Err error) → CountsFaults before now result
counts-error before now error (Ok value) is counts = absurd is
counts-error before now error (Err answered) is counts = record {
  device = λ e. let same : error ≡ Device = cc in counts.device (ap (λ (x : ReadError). Err x) same);
  memory = λ e. let same : error ≡ Memory = cc in counts.memory (ap (λ (x : ReadError). Err x) same);
  ok = tt;
}

-- an answer and want of memory, where the calls before them left the count as it was
pub counts-ok : {A : Type 0} (before now : ℕ) (value : A) → now ≡ before → CountsFaults before now (Ok value)
counts-ok before now value same = record { device = λ e. absurd cc; memory = λ e. same; ok = same }

pub counts-memory : {A : Type 0} (before now : ℕ) → now ≡ before → CountsFaults {A = A} before now (Err Memory)
counts-memory before now same = record { device = λ e. absurd cc; memory = λ e. same; ok = tt }
