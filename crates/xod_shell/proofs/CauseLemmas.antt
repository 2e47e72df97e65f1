-- Why sessions stopped in a run: the counts behind it.
use Rattle.std.proofs.Common.{◌≡◌, ◌≤◌, ℕ, suc, ◌+◌, Bool, true, false, cond, List, [], ◌∷◌, ◌⊎◌, inl, inr, refl, ap, arith, length}
use Rattle.std.specs.Prelude.{◌||◌}
use Rattle.std.specs.List.{filter}
use Rattle.std.proofs.lemmas.Bool.{false≢true}
use Rattle.xod_base.specs.declared.causes.Cause.TheVariants as cause
use Rattle.xod_base.specs.Causes.{Rose}
use Rattle.xod_journal.specs.declared.journal.JournalEntry.{JournalEntry}
use Rattle.xod_journal.specs.declared.journal.Origin.TheVariants as origin
use Rattle.xod_journal.specs.declared.journal.Step.{Step}
use Rattle.xod_journal.specs.declared.journal.Step.TheVariants as step
use Rattle.xod_journal.specs.Spaces.{IsCounted, device_stops, is_device_stop}
use Rattle.xod_play.specs.Stops.{has_met, is_broken, is_fault, is_met}

either : (b c : Bool) → (b || c) ≡ true → (b ≡ true) ⊎ (c ≡ true)
either true c is = inl refl
either false c is = inr is

-- a stop for a fault is one for the device or for a broken store
one-fault : (st : Step) → is_met is_fault st ≡ true → (is_device_stop st ≡ true) ⊎ (is_met is_broken st ≡ true)
one-fault (step.Begin mode) is = absurd (false≢true is)
one-fault step.Revert is = absurd (false≢true is)
one-fault (step.Flush changes version) is = absurd (false≢true is)
one-fault step.End is = absurd (false≢true is)
one-fault step.Sync is = absurd (false≢true is)
one-fault (step.Stop line cause.Device origin.Run) is = inl refl
one-fault (step.Stop line cause.Broken origin.Run) is = inr refl
one-fault (step.Stop line cause.Damaged origin.Run) is = absurd (false≢true is)
one-fault (step.Stop line cause.Spent origin.Run) is = absurd (false≢true is)
one-fault (step.Stop line cause.Memory origin.Run) is = absurd (false≢true is)
one-fault (step.Stop line reason origin.Order) is = absurd (false≢true is)
one-fault (step.Stop line reason origin.Left) is = absurd (false≢true is)

module _ (entry : JournalEntry) (more : List JournalEntry) where
  counts : Bool → ℕ
  counts b = length (cond b (entry ∷ filter (λ (one : JournalEntry). is_device_stop one.step) more) (filter (λ (one : JournalEntry). is_device_stop one.step) more))

  no-fewer : (b : Bool) → device_stops more ≤ counts b
  unfolding counts
  no-fewer true = omega arith
  no-fewer false = omega arith

  one-more : is_device_stop entry.step ≡ true → 1 ≤ device_stops (entry ∷ more)
  unfolding counts
  one-more is = let at : device_stops (entry ∷ more) ≡ suc (device_stops more) = ap counts is in omega (arith, at)

  as-many : device_stops more ≤ device_stops (entry ∷ more)
  unfolding counts
  as-many = no-fewer (is_device_stop entry.step)

-- a journal with a stop for a fault has one for the device, or for a broken store
some-fault : (journal : List JournalEntry) → has_met is_fault journal ≡ true → (1 ≤ device_stops journal) ⊎ (has_met is_broken journal ≡ true)
some-fault [] is = absurd (false≢true is)
some-fault (entry ∷ more) is = elim (either (is_met is_fault entry.step) (has_met is_fault more) is) [
  | inl here ↦ elim (one-fault entry.step here) [
    | inl device ↦ inl (one-more entry more device)
    | inr broken ↦ inr (ap (λ b. b || has_met is_broken more) broken)
  ]
  | inr later ↦ elim (some-fault more later) [
    | inl device ↦ inl (let few = as-many entry more in omega (arith, few, device))
    | inr broken ↦ inr (elim (is_met is_broken entry.step) as (λ b. (b || has_met is_broken more) ≡ true) [ true ↦ refl | false ↦ broken ])
  ]
]

-- where a session met a fault the count rose
pub fault-rose : (journal : List JournalEntry) (made faults : ℕ) → IsCounted (made + device_stops journal) faults → (has_met is_broken journal ≡ true → Rose made faults) → has_met is_fault journal ≡ true → Rose made faults
fault-rose journal made faults counted broke is = elim (some-fault journal is) [
  | inl device ↦ omega (arith, counted, device)
  | inr broken ↦ broke broken
]
