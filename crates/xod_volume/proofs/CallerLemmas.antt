-- What callers of a volume cite: how torn bytes lie, what a write that fits does, and which moments have passed.
use Rattle.std.proofs.Common.{◌≡◌, ◌≤◌, ◌⊎◌, ℕ, ◌+◌, ◌-◌, List, ◌++◌, length, take, drop, sym, ◌∙◌, ap, arith, inl, inr}
use Rattle.std.proofs.lemmas.Bool.{cases_lt}
use Rattle.std.proofs.lemmas.List.{take_all, take-take}
use Rattle.xod_volume.specs.Files.{Files, overwritten}
use Rattle.xod_volume.specs.Crash.{Torn, Passes, LeftSince}
pub use Rattle.xod_volume.proofs.Tables.{same_files, get_same, get_other, with_own}
pub use Rattle.xod_volume.proofs.OneFile.{Torn-same, Shortened-same, OnBytes-same, OnBytes-append, OnBytes-write, OnBytes-cut}
pub use Rattle.xod_volume.proofs.AllFiles.{OnFile-same, OnFile-changed}
pub use Rattle.xod_volume.proofs.Lent.{get_lent}

-- from bytes of the file's own length the torn ones lie behind them
pub Torn-behind : (n : ℕ) (old new : List ℕ) → Torn (length old) n old new → take (length old) new ≡ old
Torn-behind n old new torn = torn.before ∙ take_all (length old) old (omega arith)

-- within the file a write keeps the length
pub Torn-within : (at n : ℕ) (old new : List ℕ) → at + n ≤ length old → Torn at n old new → length new ≡ length old
Torn-within at n old new fits torn = omega (arith, fits, torn.no_shorter, torn.no_longer)

-- the front up to a place that is not behind the write stays
pub Torn-front : (at n end : ℕ) (old new : List ℕ) → end ≤ at → Torn at n old new → take end new ≡ take end old
Torn-front at n end old new below torn = sym (take-take end at new below) ∙ ap (take end) torn.before ∙ take-take end at old below

-- a write that fits puts all its bytes in
pub overwritten_within : (old : List ℕ) (at : ℕ) (bytes : List ℕ) → at + length bytes ≤ length old → overwritten old at bytes ≡ take at old ++ bytes ++ drop (at + length bytes) old
overwritten_within old at bytes fits = ap (λ (l : List ℕ). take at old ++ l ++ drop (at + length bytes) old) (take_all (length old - at) bytes (omega (arith, fits)))

-- what may be left since a moment before a call was so before it, or comes of the call
pub since_call : (since before now : ℕ) (past images : ℕ → Files → Type 0) (step : Files → Files → Type 0) → Passes before now past images step
    → (files : Files) → LeftSince since now images files → LeftSince since before past files ⊎ ((was : Files) × past before was × step was files)
since_call since before now past images step passes files left = elim (cases_lt before left.0) [
  | inl later ↦ inr (passes.each left.0 files (omega (arith, later)) left.2 left.3)
  | inr not ↦ inl (left.0, left.1, omega (arith, not), passes.same left.0 files (omega (arith, not)) left.3)
]
