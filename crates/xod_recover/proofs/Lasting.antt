-- What was stored since a moment is so over a call.
use Rattle.std.proofs.Common.{ℕ, inl, inr, List, Some, ◌∙◌, arith}
use Rattle.std.specs.Prelude.{◌≤◌}
use Rattle.std.specs.List.{Contains}
use Rattle.xod_volume.specs.Files.{Files}
use Rattle.xod_volume.specs.Crash.{Passes}
use Rattle.xod_volume.proofs.CallerLemmas.{since_call}
use Rattle.xod_recover.specs.Images.{Stores}
use Rattle.xod_recover.specs.Since.{AllSince, StoresOneOf}
use Rattle.xod_recover.specs.Stores.{Stored}

-- of one image, over the two things that a call leaves of what was stored
stays_one : (list : List Stored) (newest : Stored) (was left : Files) → Contains list newest → StoresOneOf list was → Stores (Some newest) was left → StoresOneOf list left
stays_one list newest was left listed before stores = elim stores [
  | inl same ↦ record { one = before.one; listed = before.listed; stored = same ∙ before.stored }
  | inr is ↦ record { one = newest; listed = listed; stored = is }
]

pub lasts : (list : List Stored) (newest : Stored) (since before now : ℕ) (past images : ℕ → Files → Type 0) → since ≤ before → Contains list newest
    → Passes before now past images (Stores (Some newest)) → AllSince list since before past → AllSince list since now images
lasts list newest since before now past images later listed passes all left when = elim (since_call since before now past images (Stores (Some newest)) passes left when) [
  | inl earlier ↦ all left earlier
  | inr step ↦ stays_one list newest step.0 left listed (all step.0 (before, later, omega (arith), step.1)) step.2
]
