-- What a call leaves of what a store has of its count.
use Rattle.std.proofs.Common.{◌≡◌, ◌≤◌, ℕ, ◌+◌, Bool, true, false, cond, List, [], ◌∷◌, ◌⊎◌, inl, inr, refl, sym, ap, subst, ◌∙◌, arith, length}
use Rattle.std.specs.Prelude.{◌||◌, IsTrue}
use Rattle.std.specs.List.{filter}
use Rattle.std.proofs.lemmas.Bool.{false≢true}
use Rattle.std.proofs.lemmas.List.{length-append}
use Rattle.std.proofs.lemmas.List.Elements.{filter-append}
use Rattle.std.proofs.lemmas.List.Folds.{list_any-append}
use Rattle.xod_base.specs.declared.causes.Cause.{Cause}
use Rattle.xod_base.specs.declared.causes.Cause.TheVariants as cause
use Rattle.xod_base.specs.Causes.{Rose}
use Rattle.xod_journal.specs.declared.journal.JournalEntry.{JournalEntry}
use Rattle.xod_journal.specs.declared.journal.Origin.{Origin}
use Rattle.xod_journal.specs.declared.journal.Origin.TheVariants as origin
use Rattle.xod_journal.specs.declared.journal.Step.{Step}
use Rattle.xod_journal.specs.declared.journal.Step.TheVariants as step
use Rattle.xod_journal.specs.Seats.{entered}
use Rattle.xod_journal.specs.Spaces.{IsCounted, IsMet, SpaceView, device_stops, is_device_stop}
use Rattle.xod_journal.proofs.CallerLemmas.{device_stops-entered}
use Rattle.xod_store.specs.Parts.{IsAccounted, has_stop_for, is_broken_cause, is_spent_cause, is_stop, is_stop_for}

-- a stop for a cause that passes a test is there after one entry more
has_stop-entered : (test : Cause → Bool) (journal : List JournalEntry) (actor : ℕ) (st : Step) → has_stop_for test (entered journal actor st) ≡ true → (has_stop_for test journal ≡ true) ⊎ (is_stop_for test st ≡ true)
has_stop-entered test journal actor st is =
    split (has_stop_for test journal) (is_stop_for test st) (sym (list_any-append (λ (entry : JournalEntry). is_stop_for test entry.step) journal _) ∙ is)
  where
    split : (b c : Bool) → (b || (c || false)) ≡ true → (b ≡ true) ⊎ (c ≡ true)
    split true c is = inl refl
    split false true is = inr refl
    split false false is = absurd (false≢true is)

-- a step that is no stop
quiet-stop : (test : Cause → Bool) (st : Step) → is_stop st ≡ false → is_stop_for test st ≡ false
quiet-stop test (step.Begin mode) is = refl
quiet-stop test step.Revert is = refl
quiet-stop test (step.Flush changes version) is = refl
quiet-stop test step.End is = refl
quiet-stop test step.Sync is = refl
quiet-stop test (step.Stop line reason from) is = absurd (false≢true (sym is))

quiet-device : (st : Step) → is_stop st ≡ false → is_device_stop st ≡ false
quiet-device (step.Begin mode) is = refl
quiet-device step.Revert is = refl
quiet-device (step.Flush changes version) is = refl
quiet-device step.End is = refl
quiet-device step.Sync is = refl
quiet-device (step.Stop line reason from) is = absurd (false≢true (sym is))

same-stops : (test : Cause → Bool) (journal : List JournalEntry) (actor : ℕ) (st : Step) → is_stop st ≡ false → has_stop_for test (entered journal actor st) ≡ true → has_stop_for test journal ≡ true
same-stops test journal actor st quiet is = elim (has_stop-entered test journal actor st is) [
  | inl before ↦ before
  | inr now ↦ absurd (false≢true (sym (quiet-stop test st quiet) ∙ now))
]

module _ (journal : List JournalEntry) (made faults : ℕ) (is_broken is_last : Bool) (old : IsAccounted journal made faults is_broken is_last) where
  -- the environment after a call: what broke it made the count rise
  pub accounted-later : (later : List JournalEntry) (now : ℕ) (broken_now last_now : Bool) → later ≡ journal → faults ≤ now → (IsTrue broken_now → IsTrue is_broken ⊎ Rose faults now) → (IsTrue is_last → IsTrue last_now)
      → IsAccounted later made now broken_now last_now
  accounted-later later now broken_now last_now same grows breaks stays =
      let counted = old.counted in
      let stops = ap device_stops same in
      record {
        counted = omega arith;
        broken = λ is. elim (breaks is) [
          | inl before ↦ let rose = old.broken before in omega arith
          | inr rose ↦ omega arith
        ];
        broken_stops = λ is. let rose = old.broken_stops (ap (has_stop_for is_broken_cause) (sym same) ∙ is) in omega arith;
        spent_stops = λ is. stays (old.spent_stops (ap (has_stop_for is_spent_cause) (sym same) ∙ is));
      }

  -- an entry that is no stop
  pub accounted-entered : (grown : List JournalEntry) (actor : ℕ) (st : Step) → is_stop st ≡ false → grown ≡ entered journal actor st → IsAccounted grown made faults is_broken is_last
  accounted-entered grown actor st quiet entry =
      let counted = old.counted in
      let stops = ap device_stops entry ∙ device_stops-entered journal actor st (quiet-device st quiet) in
      record {
        counted = omega arith;
        broken = old.broken;
        broken_stops = λ is. old.broken_stops (same-stops is_broken_cause journal actor st quiet (ap (has_stop_for is_broken_cause) (sym entry) ∙ is));
        spent_stops = λ is. old.spent_stops (same-stops is_spent_cause journal actor st quiet (ap (has_stop_for is_spent_cause) (sym entry) ∙ is));
      }

-- one entry more is at most one stop more for a device's fault
stops-grown : (journal : List JournalEntry) (actor : ℕ) (st : Step) → device_stops (entered journal actor st) ≤ device_stops journal + 1
stops-grown journal actor st =
    let entry : JournalEntry = record { actor = actor; step = st } in
    let parts = ap length (filter-append (λ (e : JournalEntry). is_device_stop e.step) journal (entry ∷ [])) ∙ length-append (filter (λ (e : JournalEntry). is_device_stop e.step) journal) (filter (λ (e : JournalEntry). is_device_stop e.step) (entry ∷ [])) in
    let one : length (filter (λ (e : JournalEntry). is_device_stop e.step) (entry ∷ [])) ≤ 1 = elim (is_device_stop st) as (λ b. length (cond b (entry ∷ []) []) ≤ 1) [ true ↦ omega arith | false ↦ omega arith ] in
    omega arith

-- a stop, whose cause was met
module _ (space : SpaceView) (old : IsAccounted space.journal space.made space.faults space.is_broken space.is_last) (actor line own : ℕ) (now : ℕ) (grows : space.faults ≤ now) (added : IsCounted (space.faults + own) now) where
  counts : (why : Cause) (by : Origin) → IsMet space own why by → IsCounted (space.made + device_stops (entered space.journal actor (step.Stop line why by))) now
  counts cause.Device origin.Run met = let grown = stops-grown space.journal actor (step.Stop line cause.Device origin.Run) in omega arith
  counts cause.Device origin.Order met = let same = device_stops-entered space.journal actor (step.Stop line cause.Device origin.Order) refl in let counted = old.counted in omega arith
  counts cause.Device origin.Left met = let same = device_stops-entered space.journal actor (step.Stop line cause.Device origin.Left) refl in let counted = old.counted in omega arith
  counts cause.Broken by met = let same = device_stops-entered space.journal actor (step.Stop line cause.Broken by) refl in let counted = old.counted in omega arith
  counts cause.Damaged by met = let same = device_stops-entered space.journal actor (step.Stop line cause.Damaged by) refl in let counted = old.counted in omega arith
  counts cause.Spent by met = let same = device_stops-entered space.journal actor (step.Stop line cause.Spent by) refl in let counted = old.counted in omega arith
  counts cause.Memory by met = let same = device_stops-entered space.journal actor (step.Stop line cause.Memory by) refl in let counted = old.counted in omega arith

  -- a stop that this run met for the broken environment, or for a last number
  breaks : (why : Cause) (by : Origin) → IsMet space own why by → is_stop_for is_broken_cause (step.Stop line why by) ≡ true → Rose space.made now
  breaks cause.Broken origin.Run met is = let rose = old.broken met in omega arith
  breaks cause.Broken origin.Order met is = absurd (false≢true is)
  breaks cause.Broken origin.Left met is = absurd (false≢true is)
  breaks cause.Device origin.Run met is = absurd (false≢true is)
  breaks cause.Device origin.Order met is = absurd (false≢true is)
  breaks cause.Device origin.Left met is = absurd (false≢true is)
  breaks cause.Damaged origin.Run met is = absurd (false≢true is)
  breaks cause.Damaged origin.Order met is = absurd (false≢true is)
  breaks cause.Damaged origin.Left met is = absurd (false≢true is)
  breaks cause.Spent origin.Run met is = absurd (false≢true is)
  breaks cause.Spent origin.Order met is = absurd (false≢true is)
  breaks cause.Spent origin.Left met is = absurd (false≢true is)
  breaks cause.Memory origin.Run met is = absurd (false≢true is)
  breaks cause.Memory origin.Order met is = absurd (false≢true is)
  breaks cause.Memory origin.Left met is = absurd (false≢true is)

  spends : (why : Cause) (by : Origin) → IsMet space own why by → is_stop_for is_spent_cause (step.Stop line why by) ≡ true → IsTrue space.is_last
  spends cause.Spent origin.Run met is = met
  spends cause.Spent origin.Order met is = absurd (false≢true is)
  spends cause.Spent origin.Left met is = absurd (false≢true is)
  spends cause.Broken origin.Run met is = absurd (false≢true is)
  spends cause.Broken origin.Order met is = absurd (false≢true is)
  spends cause.Broken origin.Left met is = absurd (false≢true is)
  spends cause.Device origin.Run met is = absurd (false≢true is)
  spends cause.Device origin.Order met is = absurd (false≢true is)
  spends cause.Device origin.Left met is = absurd (false≢true is)
  spends cause.Damaged origin.Run met is = absurd (false≢true is)
  spends cause.Damaged origin.Order met is = absurd (false≢true is)
  spends cause.Damaged origin.Left met is = absurd (false≢true is)
  spends cause.Memory origin.Run met is = absurd (false≢true is)
  spends cause.Memory origin.Order met is = absurd (false≢true is)
  spends cause.Memory origin.Left met is = absurd (false≢true is)

  pub accounted-stopped : (why : Cause) (by : Origin) (grown : List JournalEntry) → IsMet space own why by → grown ≡ entered space.journal actor (step.Stop line why by)
      → IsAccounted grown space.made now space.is_broken space.is_last
  accounted-stopped why by grown met entry = record {
    counted = subst (λ j. IsCounted (space.made + device_stops j) now) (sym entry) (counts why by met);
    broken = λ is. let rose = old.broken is in omega arith;
    broken_stops = λ is. elim (has_stop-entered is_broken_cause space.journal actor (step.Stop line why by) (ap (has_stop_for is_broken_cause) (sym entry) ∙ is)) [
      | inl before ↦ let rose = old.broken_stops before in omega arith
      | inr stop ↦ breaks why by met stop
    ];
    spent_stops = λ is. elim (has_stop-entered is_spent_cause space.journal actor (step.Stop line why by) (ap (has_stop_for is_spent_cause) (sym entry) ∙ is)) [
      | inl before ↦ old.spent_stops before
      | inr stop ↦ spends why by met stop
    ];
  }

-- a new store
pub accounted-new : (journal : List JournalEntry) (made faults : ℕ) (is_broken is_last : Bool) → journal ≡ [] → faults ≡ made → is_broken ≡ false → IsAccounted journal made faults is_broken is_last
accounted-new journal made faults is_broken is_last none same whole =
    let stops = ap device_stops none in
    record {
      counted = omega arith;
      broken = λ is. absurd (false≢true (sym whole ∙ is));
      broken_stops = λ is. absurd (false≢true (sym (ap (has_stop_for is_broken_cause) none) ∙ is));
      spent_stops = λ is. absurd (false≢true (sym (ap (has_stop_for is_spent_cause) none) ∙ is));
    }
